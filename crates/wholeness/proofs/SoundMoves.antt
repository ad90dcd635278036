-- The cursor's moves keep it on the page, and with origin on between the margins.
use Rattle.std.proofs.Common.{ℕ, ◌+◌, ◌-◌, ◌≤◌, Bool, ◌||◌, eqb, ltb, leb, arith, ltb-false, ltb-true, leb-false, leb-true}
use borrow.Author.Tests.{eqb-false}
use Rattle.device.specs.declared.cursor.Cursor.{Cursor}
use Rattle.core_state.specs.declared.Core.{Core}
use Rattle.device.specs.Cursor.{place, up, down, left, right, to_column, tab, index, reverse_index, advance}
use Rattle.core_state.specs.Geometry.{left_stop, right_stop, top_stop, bottom_stop}
use Rattle.core_state.specs.Effects.{with_cursor}
use Rattle.device.proofs.TabLaws.{next_low, next-high}
use Rattle.ground.proofs.TestLaws.{either, or_left, or_right}
use Rattle.core_state.specs.declared.Margins.{Margins}
use Rattle.parser.specs.declared.parser.Parser.{Parser}
use Rattle.core_state.specs.Bounds.{OnPage, Scrolls}
use Rattle.core_state.specs.Whole.{WrapHeld, OriginHeld, Held, Parts}
use Rattle.wholeness.proofs.Wholeness.{no_wrap}

-- a place for the cursor, with these margins and origin on or off
pub record Placed (rows : ℕ) (m : Margins) (o : Bool) (row column : ℕ) : Type 0 where
  pub place : OnPage rows row column
  pub origin : OriginHeld o m row

-- a move from one place to another that does not leave the margins
placed-inside : {rows row column row' column' : ℕ} {m : Margins} {o : Bool} → Placed rows m o row column → OnPage rows row' column'
    → (m.top ≤ row → row ≤ m.bottom → (m.top ≤ row') × (row' ≤ m.bottom)) → Placed rows m o row' column'
placed-inside f on k = record {
  place = on;
  origin = record { low = λ h. (k (f.origin.low h) (f.origin.high h)).0; high = λ h. (k (f.origin.low h) (f.origin.high h)).1 };
}

-- the cursor and the margins go elsewhere, and the rest stays
pub placed-parts : {rows row column : ℕ} {m : Margins} {o : Bool} {s : Cursor} {q : Parser} → Held rows row column m o s q
    → {row' column' : ℕ} {m' : Margins} {o' : Bool} → Scrolls rows m' → Placed rows m' o' row' column' → Held rows row' column' m' o' s q
placed-parts p m f = record {
  bounds = record { count = p.bounds.count; cursor = f.place; margins = m };
  origin = f.origin;
  saved = p.saved;
  parser = p.parser;
}

-- a cursor that a core may have, but for wrap due
abbrev pub Fine : Core → Cursor → Type 0
Fine c u = Placed c.rows c.margins c.modes.origin u.row u.column

pub own : (c : Core) → Parts c → Fine c c.cursor
own c p = record { place = p.bounds.cursor; origin = p.origin }

pub with-cursor : (c : Core) (u : Cursor) → Parts c → Fine c u → Parts (with_cursor c u)
with-cursor c u p f = placed-parts p p.bounds.margins f

module _ (c : Core) (u : Cursor) (p : Parts c) (f : Fine c u) where
  pub fine-start : Fine c (to_column u (left_stop c))
  fine-start = placed-inside f (omega arith) (omega arith)

  pub fine-index : Fine c (index u c.margins.bottom c.rows)
  fine-index =
      let bottom = eqb u.row c.margins.bottom in
      let last = eqb u.row c.rows in
      either (λ (row : ℕ). Fine c (place row u.column)) (bottom || last) (λ _. f)
      (λ e.
      let off = eqb-false u.row c.margins.bottom (or_left bottom last e) in
      let before = eqb-false u.row c.rows (or_right bottom last e) in
      placed-inside f (omega arith) (omega arith))

  -- after a character was put
  pub fine-advance : (autowrap : Bool) → Fine c (advance u (right_stop c) autowrap)
  fine-advance autowrap =
      either (Fine c) (ltb u.column (right_stop c)) (λ e. placed-inside f (omega (arith, ltb-true)) (omega arith)) (λ e. f)

  pub advance-wrap : (autowrap : Bool) → WrapHeld (advance u (right_stop c) autowrap).wrap (advance u (right_stop c) autowrap).column autowrap
  advance-wrap autowrap =
      either (λ (v : Cursor). WrapHeld v.wrap v.column autowrap) (ltb u.column (right_stop c))
      (λ e. no_wrap (u.column + 1) autowrap)
      (λ e. let l = ltb-false u.column (right_stop c) e in record { column = λ h. omega arith; mode = λ h. h })

-- from the core's own cursor
module _ (c : Core) (p : Parts c) where
  pub fine-returned : Fine c (to_column c.cursor (left_stop c))
  fine-returned = fine-start c c.cursor p (own c p)

  pub fine-left : (n : ℕ) → Fine c (left c.cursor n (left_stop c))
  fine-left n = placed-inside (own c p) (omega arith) (omega arith)

  pub fine-right : (n : ℕ) → Fine c (right c.cursor n (right_stop c))
  fine-right n = placed-inside (own c p) (omega arith) (omega arith)

  -- CUU's stop: T, or the first row above it
  pub fine_up : (n : ℕ) → Fine c (up c.cursor n (top_stop c))
  fine_up n =
      either (λ (stop : ℕ). Fine c (up c.cursor n stop)) (leb c.margins.top c.cursor.row)
      (λ e. placed-inside (own c p) (omega (arith, leb-true)) (omega (arith, leb-true)))
      (λ e. placed-inside (own c p) (omega (arith, leb-false)) (omega (arith, leb-false)))

  -- CUD's stop: B, or the last row below it
  pub fine-down : (n : ℕ) → Fine c (down c.cursor n (bottom_stop c))
  fine-down n =
      either (λ (stop : ℕ). Fine c (down c.cursor n stop)) (leb c.cursor.row c.margins.bottom)
      (λ e. placed-inside (own c p) (omega (arith, leb-true)) (omega (arith, leb-true)))
      (λ e. placed-inside (own c p) (omega (arith, leb-false)) (omega (arith, leb-false)))

  pub fine-reverse-index : Fine c (reverse_index c.cursor c.margins.top)
  fine-reverse-index =
      let top = eqb c.cursor.row c.margins.top in
      let first = eqb c.cursor.row 1 in
      either (λ (row : ℕ). Fine c (place row c.cursor.column)) (top || first) (λ _. own c p)
      (λ e.
      let off = eqb-false c.cursor.row c.margins.top (or_left top first e) in
      let after = eqb-false c.cursor.row 1 (or_right top first e) in
      placed-inside (own c p) (omega arith) (omega arith))

  pub fine-tab : Fine c (tab c.cursor c.tabs (right_stop c))
  fine-tab =
      let steps = right_stop c - c.cursor.column in
      let low = next_low steps c.tabs c.cursor.column in
      let high = next-high steps c.tabs c.cursor.column in
      placed-inside (own c p) (omega arith) (omega arith)
