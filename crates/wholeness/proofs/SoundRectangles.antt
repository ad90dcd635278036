-- The functions on rectangles keep a core whole, and their edits stay on the page.
use Rattle.std.proofs.Common.{◌≡◌, ℕ, ◌+◌, ◌-◌, ◌*◌, ◌≤◌, min, Bool, true, false, Some, None, cond, ◌&&◌, eqb, leb, refl, arith, leb-true}
use borrow.Author.Tests.{eqb-false}
use Rattle.page.specs.Edits.{RectangleFits, RangeFits, Within}
use Rattle.parser.specs.declared.params.Params.{Params}
use Rattle.parser.specs.Params.{param}
use Rattle.core_state.specs.declared.Core.{Core}
use Rattle.core_state.specs.Whole.{Parts, WrapOf}
use Rattle.core_state.specs.Effects.{one_edit}
use Rattle.rectangles.specs.declared.areas.Area.{Area}
use Rattle.rectangles.specs.Areas.{row_edge, column_edge, area_at, is_taken}
use Rattle.rectangles.specs.Attributes.{restyling_of}
use Rattle.rectangles.specs.Functions.{is_printed, if_styled, change_attributes, copy_rectangle, rectangle_edit, select_extent}
use Rattle.ground.proofs.TestLaws.{either, and_left, and_right}
use Rattle.wholeness.proofs.Decisions.{Good, good-kept, good-either}

-- an edge on the page
record Edge (n e : ℕ) : Type 0 where
  low : 1 ≤ e
  high : e ≤ n

record AreaOn (rows : ℕ) (a : Area) : Type 0 where
  top : Edge rows a.top
  left : Edge 80 a.left
  bottom : Edge rows a.bottom
  right : Edge 80 a.right

column-edge : (p own : ℕ) → Edge 80 own → Edge 80 (column_edge p own)
column-edge p own h = either (Edge 80) (eqb p 0) (λ _. h) (λ e. let n = eqb-false p 0 e in record { low = omega arith; high = omega arith })

module _ (c : Core) (p : Parts c) where
  first-low : (o : Bool) → 1 ≤ cond o c.margins.top 1
  first-low true = omega arith
  first-low false = omega arith

  row-edge : (n own : ℕ) → Edge c.rows own → Edge c.rows (row_edge c n own)
  row-edge n own h =
      let f = first-low c.modes.origin in
      either (Edge c.rows) (eqb n 0) (λ _. h) (λ _. record { low = omega arith; high = omega arith })

  first-row : Edge c.rows 1
  first-row = record { low = omega arith; high = omega arith }

  first-column : Edge 80 1
  first-column = record { low = omega arith; high = omega arith }

  area_on : (q : Params) (i : ℕ) → AreaOn c.rows (area_at c q i)
  unfolding area_at
  area_on q i = record {
    top = row-edge (param q i) 1 first-row;
    left = column-edge (param q (i + 1)) 1 first-column;
    bottom = row-edge (param q (i + 2)) c.rows (record { low = omega arith; high = omega arith });
    right = column-edge (param q (i + 3)) 80 (record { low = omega arith; high = omega arith });
  }

  -- ---- the edits, in an area that is taken

  module _ (q : Params) (i : ℕ) (e : is_taken (area_at c q i) ≡ true) where
    ordered : ((area_at c q i).top ≤ (area_at c q i).bottom) × ((area_at c q i).left ≤ (area_at c q i).right)
    ordered =
        let a = area_at c q i in
        let down = leb a.top a.bottom in
        let across = leb a.left a.right in
        (leb-true a.top a.bottom (and_left down across e), leb-true a.left a.right (and_right down across e))

    rectangle-fits : RectangleFits c.rows ((area_at c q i).top - 1) (area_at c q i).bottom ((area_at c q i).left - 1) (area_at c q i).right
    rectangle-fits = omega (arith, ordered, area_on q i)

    stream-fits : RangeFits c.rows (80 * ((area_at c q i).top - 1) + ((area_at c q i).left - 1)) (80 * ((area_at c q i).bottom - 1) + (area_at c q i).right)
    stream-fits = omega (arith, ordered, area_on q i)

    copy-fits : (t l : ℕ) → Edge c.rows t → Edge 80 l
        → let a = area_at c q i in
        let end = min c.rows (t + (a.bottom - a.top)) in
        let right = min 80 (l + (a.right - a.left)) in
        RectangleFits c.rows (t - 1) end (l - 1) right
        × RectangleFits c.rows (a.top - 1) (a.top - 1 + (end - (t - 1))) (a.left - 1) (a.left - 1 + (right - (l - 1)))
    copy-fits t l y x = omega (arith, ordered, area_on q i)

  -- the edit of each function
  rectangle-within : (q : Params) (last : ℕ) → Within c.rows (rectangle_edit c q last)
  rectangle-within q last =
      let i : ℕ = cond (eqb last 0x78) 1 0 in
      let W = Within c.rows in
      let a = area_at c q i in
      either W (is_taken a)
      (λ e.
      let fits = rectangle-fits q i e in
      let styles : (r : Bool) → W (change_attributes c.modes.rectangle q a r) = λ r.
      elim (restyling_of r q) as (λ o. W (if_styled c.modes.rectangle a o)) [ Some s ↦ either W c.modes.rectangle (λ _. fits) (λ _. stream-fits q i e) | None ↦ tt ] in
      let copies : W (copy_rectangle c q a) =
      either W (leb (param q 4) 1 && leb (param q 7) 1)
      (λ _. copy-fits q i e (row_edge c (param q 5) 1) (column_edge (param q 6) 1) (row-edge (param q 5) 1 first-row) (column-edge (param q 6) 1 first-column))
      (λ _. tt) in
      either W (eqb last 0x72) (λ _. styles false) (λ _. either W (eqb last 0x74) (λ _. styles true) (λ _. either W (eqb last 0x76) (λ _. copies)
      (λ _. either W (eqb last 0x78) (λ _. either W (is_printed c (param q 0)) (λ _. fits) (λ _. tt)) (λ _. either W (eqb last 0x7A) (λ _. fits)
      (λ _. either W (eqb last 0x7B) (λ _. fits) (λ _. tt)))))))
      (λ _. tt)

  module _ (h : WrapOf c) where
    pub good-rectangle : (t : Bool) (q : Params) (last : ℕ) → Good c.rows t (one_edit c (rectangle_edit c q last))
    good-rectangle t q last = good-kept c (rectangle_edit c q last) refl p (λ _. h) (rectangle-within q last)

    pub good-extent : (t : Bool) (q : Params) → Good c.rows t (select_extent c q)
    good-extent t q = search (good-either, good-kept, tt)
