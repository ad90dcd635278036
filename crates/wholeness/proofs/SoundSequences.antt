-- Control sequences keep a core whole, and their edits stay on the page.
use Rattle.std.proofs.Common.{◌≡◌, ℕ, ◌+◌, ◌-◌, ◌*◌, ◌<◌, ◌≤◌, min, max, Bool, true, false, cond, not, ◌&&◌, ◌||◌, eqb, ltb, List, [], ◌∷◌, sym, refl, ◌∙◌, arith, ltb-false, ltb-true, ne_eqb, eqb-true}
use mathlib.Core.Bool.{false≢true, not-not}
use borrow.Author.Tests.{eqb-false, not-false}
use Rattle.page.specs.Edits.{RowsFit, CellsFit, RangeFits}
use Rattle.parser.specs.declared.params.Params.{Params}
use Rattle.core_state.specs.declared.Core.{Core}
use Rattle.core_state.specs.declared.Margins.{Margins}
use Rattle.parser.specs.Params.{param, param_list, member}
use Rattle.device.specs.Cursor.{place, offset}
use Rattle.core_state.specs.Fresh.{fresh_core}
use Rattle.core_state.specs.Bounds.{Scrolls}
use Rattle.core_state.specs.Whole.{Parts, WrapOf}
use Rattle.core_state.specs.Geometry.{left_stop, right_stop, home}
use Rattle.core_state.specs.StatusLine.{is_line}
use Rattle.ground.specs.Folds.{folded}
use Rattle.rectangles.specs.Functions.{rectangle_edit, select_extent}
use Rattle.csi.specs.Sequences.{row_at, row_start, rows_below, cells_right, ansi_mode, origin_mode, dec_mode, mode_set, modes_set, select_protection}
use Rattle.csi.specs.Sequences.{requested_margins, margins_taken, set_margins, soft_reset, plain_sequence, private_sequence, sequenced}
use Rattle.parser.specs.Families.{is_plain, is_private, is_protection, is_soft_reset, is_dollar, is_extent}
use Rattle.dispatch.specs.Heard.{inside_margins, plain_ignored, private_ignored, ignored_sequence}
use Rattle.dispatch.specs.WrapDue.{keeping_finals, sets_origin, private_keeps, other_keeps, sequence_keeps}
use Rattle.core_state.specs.Effects.{with_cursor, with_margins, one_edit, unedited}
use Rattle.ground.proofs.TestLaws.{either, at-number, or_left, or_right, between-low, between-high}
use Rattle.dispatch.proofs.WrapLaws.{reset-clears}
use Rattle.wholeness.proofs.Decisions.{Good, good-kept, good-unedited, good-either}
use Rattle.wholeness.proofs.SoundMoves.{Placed, placed-parts, Fine, fine-returned, fine_up, fine-down, fine-left, fine-right}
use Rattle.wholeness.proofs.SoundControls.{good-moved}
use Rattle.wholeness.proofs.SoundRectangles.{good-rectangle, good-extent}
use Rattle.wholeness.proofs.Wholeness.{no_wrap, full, origin-off, saved-home}

module _ (c : Core) (p : Parts c) where
  -- ---- moving the cursor

  positioned : (o : Bool) (n k : ℕ) → 1 ≤ n → 1 ≤ k → k ≤ 80
      → Placed c.rows c.margins o (min (cond o c.margins.top 1 + n - 1) (cond o c.margins.bottom c.rows)) k
  positioned true n k ln lk hk = omega arith
  positioned false n k ln lk hk = omega (arith, false≢true)

  fine-position : (n k : ℕ) → Fine c (place (row_at c (max 1 n)) (min (max 1 k) (right_stop c)))
  fine-position n k = positioned c.modes.origin (max 1 n) (min (max 1 k) (right_stop c)) (omega arith) (omega arith) (omega arith)

  -- ---- erasing: the cursor's cell is on the page and in its row

  range-fits : (s base end : ℕ) → base ≤ offset c.cursor → offset c.cursor < end → end ≤ 80 * c.rows
      → RangeFits c.rows (cond (eqb s 0) (offset c.cursor) base) (cond (eqb s 1) (offset c.cursor + 1) end)
  range-fits s base end low high on =
      either (λ (a : ℕ). RangeFits c.rows a (cond (eqb s 1) (offset c.cursor + 1) end)) (eqb s 0)
      (λ _. either (RangeFits c.rows (offset c.cursor)) (eqb s 1) (λ _. omega arith) (λ _. omega arith))
      (λ _. either (RangeFits c.rows base) (eqb s 1) (λ _. omega arith) (λ _. omega arith))

  page-range : (s : ℕ) → RangeFits c.rows (cond (eqb s 0) (offset c.cursor) 0) (cond (eqb s 1) (offset c.cursor + 1) (80 * c.rows))
  page-range s = range-fits s 0 (80 * c.rows) (omega arith) (omega arith) (omega arith)

  row-range : (s : ℕ) → RangeFits c.rows (cond (eqb s 0) (offset c.cursor) (row_start c)) (cond (eqb s 1) (offset c.cursor + 1) (row_start c + 80))
  row-range s = range-fits s (row_start c) (row_start c + 80) (omega arith) (omega arith) (omega arith)

  count-range : (n : ℕ) → RangeFits c.rows (offset c.cursor) (min (offset c.cursor + n) (row_start c + 80))
  count-range n = omega arith

  -- ---- inserting and deleting

  cells_fit : (n : ℕ) → CellsFit c.rows (c.cursor.row - 1) (c.cursor.column - 1) (right_stop c) (min n (cells_right c))
  cells_fit n = omega arith

  lines_fit : (n : ℕ) → inside_margins c ≡ true
      → RowsFit c.rows (c.cursor.row - 1) c.margins.bottom (left_stop c - 1) (right_stop c) (min n (rows_below c))
  lines_fit n e =
      let top = c.margins.top in
      let row = c.cursor.row in
      omega (arith, between-low top row c.margins.bottom e, between-high top row c.margins.bottom e)

  -- ---- margins

  requested-scroll : (q : Params) → margins_taken c q ≡ true → Scrolls c.rows (requested_margins c q)
  requested-scroll q e =
      let some = ltb-true (requested_margins c q).top (requested_margins c q).bottom e in
      let high : (requested_margins c q).bottom ≤ c.rows =
      either (λ (b : ℕ). b ≤ c.rows) (eqb (param q 1) 0 || ltb c.rows (param q 1)) (λ _. omega arith)
      (λ f. ltb-false c.rows (param q 1) (or_right (eqb (param q 1) 0) (ltb c.rows (param q 1)) f)) in
      omega arith

  margin-home : (o : Bool) (a : Margins) → Scrolls c.rows a → Placed c.rows a o (cond o a.top 1) 1
  margin-home true a m = omega arith
  margin-home false a m = omega (arith, false≢true)

  good-margins : (t : Bool) (q : Params) → margins_taken c q ≡ true → Good c.rows t (set_margins c q)
  good-margins t q e =
      let m = requested-scroll q e in
      let d : Core = with_margins c (requested_margins c q) in
      good-unedited (with_cursor d (home d)) t (placed-parts p m (margin-home c.modes.origin (requested_margins c q) m))
      (λ _. no_wrap 1 c.modes.autowrap)

-- wrap due is cleared by the policy
good-soft-reset : (c : Core) → Parts c → Good c.rows true (unedited (soft_reset c))
unfolding soft_reset fresh_core
good-soft-reset c p =
    let n = p.bounds.count in
    good-unedited (soft_reset c) true
    (record {
      bounds = record { count = n; cursor = p.bounds.cursor; margins = full c.rows n };
      origin = origin-off _ _;
      saved = saved-home c.rows n;
      parser = p.parser;
    })
    (λ e. absurd (false≢true (sym e)))

-- ---- modes

-- a core of r rows, whole but for wrap due
record Even (r : ℕ) (d : Core) : Type 0 where
  rows : d.rows ≡ r
  parts : Parts d

folded_keeps : (P : Core → Type 0) (f : Core → ℕ → Core) → ((d : Core) (v : ℕ) → P d → P (f d v)) → (d : Core) (vs : List ℕ) → P d → P (folded f d vs)
folded_keeps P f step d [] h = h
folded_keeps P f step d (v ∷ vs) h = folded_keeps P f step (f d v) vs (step d v h)

even-either : {r : ℕ} (t : Bool) {x y : Core} → Even r x → Even r y → Even r (cond t x y)
even-either {r} t f g = either (Even r) t (λ _. f) (λ _. g)

even_is : {r : ℕ} (d : Core) → d.rows ≡ r → Parts d → Even r d
even_is d e p = record { rows = e; parts = p }

origin-parts : (on : Bool) (d : Core) → Parts d → Parts (origin_mode on d)
origin-parts on d p = placed-parts p p.bounds.margins (margin-home d p on d.margins p.bounds.margins)

mode-even : (r : ℕ) (private on : Bool) (d : Core) (v : ℕ) → Even r d → Even r (mode_set private on d v)
mode-even r private on d v s =
    let e : d.rows ≡ r = s.rows in
    let p : Parts d = s.parts in
    search (even-either, even_is, origin-parts) depth 10

ansi-wrap : (on : Bool) (d : Core) (v : ℕ) → WrapOf d → WrapOf (ansi_mode on d v)
ansi-wrap on d v h = either WrapOf (eqb v 4) (λ e. h) (λ _. either WrapOf (eqb v 20) (λ e. h) (λ _. h))

-- a private mode keeps wrap due held, unless autowrap is reset
dec-wrap : (on : Bool) (d : Core) (v : ℕ) → (eqb v 7 ≡ true → on ≡ true) → WrapOf d → WrapOf (dec_mode on d v)
dec-wrap on d v n h =
    either WrapOf (eqb v 6) (λ e. either WrapOf (is_line d) (λ _. h) (λ _. no_wrap 1 d.modes.autowrap))
    (λ _. either WrapOf (eqb v 7) (λ e. record { column = h.column; mode = λ _. n e })
    (λ _. either WrapOf (eqb v 25) (λ e. h) (λ _. h)))

resets-wrap : (d : Core) (vs : List ℕ) → member 7 vs ≡ false → WrapOf d → WrapOf (folded (mode_set true false) d vs)
resets-wrap d [] n h = h
resets-wrap d (v ∷ vs) n h =
    let other = eqb-false 7 v (or_left (eqb 7 v) (member 7 vs) n) in
    resets-wrap (dec_mode false d v) vs (or_right (eqb 7 v) (member 7 vs) n) (dec-wrap false d v (λ e. absurd (other (sym (eqb-true v 7 e)))) h)

-- the moves, and what keeps edits on the page
ruleset moving = (good-moved, fine_up, fine-down, fine-left, fine-right, fine-position, fine-returned)

ruleset fitting = (lines_fit, cells_fit, page-range, row-range, count-range)

module _ (c : Core) (p : Parts c) (h : WrapOf c) where
  good-modes : (t private on : Bool) (q : Params) → (t ≡ false → WrapOf (folded (mode_set private on) c (param_list q)))
      → Good c.rows t (modes_set private on c q)
  good-modes t private on q w =
      let s = folded_keeps (Even c.rows) (mode_set private on) (mode-even c.rows private on) c (param_list q) (even_is c refl p) in
      record { rows = s.rows; parts = s.parts; wrap = w; first = tt; second = tt }

  good-ansi : (t on : Bool) (q : Params) → Good c.rows t (modes_set false on c q)
  good-ansi t on q = good-modes t false on q (λ e. folded_keeps WrapOf (mode_set false on) (ansi-wrap on) c (param_list q) h)

  good-protection : (t : Bool) (q : Params) → Good c.rows t (select_protection c q)
  good-protection t q = search (good-either, good-kept, tt)

  -- ---- the sequences

  -- what is not ignored outside T to B is inside, and margins that are not ignored are taken
  module _ (q : Params) (last : ℕ) (n : plain_ignored c q last ≡ false) where
    inserts-inside : eqb last 0x4C ≡ true → inside_margins c ≡ true
    inserts-inside e = not-false (inside_margins c) (or_right (is_line c) (not (inside_margins c)) (rw (eqb-true last 0x4C e) at n))

    deletes-inside : eqb last 0x4D ≡ true → inside_margins c ≡ true
    deletes-inside e = not-false (inside_margins c) (or_right (is_line c) (not (inside_margins c)) (rw (eqb-true last 0x4D e) at n))

    takes-margins : eqb last 0x72 ≡ true → margins_taken c q ≡ true
    takes-margins e = not-false _ (rw (eqb-true last 0x72 e) at n)

    good-plain : (t : Bool) → Good c.rows t (plain_sequence c q last)
    good-plain t =
        search (good-either, moving, good-ansi, good-margins, takes-margins, good-kept, fitting, inserts-inside, deletes-inside, tt) depth 24 fits 6000

  -- here the policy has to clear wrap due where autowrap is reset
  good-private : (q : Params) (last : ℕ) → Good c.rows (not (private_keeps c q last)) (private_sequence c q last)
  good-private q last =
      let G : ℕ → Type 0 = λ n. Good c.rows (not (private_keeps c q n)) (private_sequence c q n) in
      let six = sets_origin c q in
      let seven = member 7 (param_list q) in
      at-number G last 0x4A (good-kept c _ refl p (λ _. h) (page-range c p (param q 0)))
      (λ n1. at-number G last 0x4B (good-kept c _ refl p (λ _. h) (row-range c p (param q 0)))
      (λ n2. at-number G last 0x68 (good-modes (not (not six)) true true q
      (λ e. folded_keeps WrapOf (mode_set true true) (λ d v. dec-wrap true d v (λ _. refl)) c (param_list q) h))
      (λ n3. at-number G last 0x6C
      (good-modes (not (not (six || seven))) true false q
      (λ e. resets-wrap c (param_list q) (or_right six seven (sym (not-not (six || seven)) ∙ e)) h))
      (λ n4. rw (ne_eqb last 0x4A n1, ne_eqb last 0x4B n2, ne_eqb last 0x68 n3, ne_eqb last 0x6C n4) (good-unedited c _ p (λ _. h))))))

  families : (q : Params) (last : ℕ) (i j keeps k l x e : Bool)
      → cond i (plain_ignored c q last) (j && private_ignored q last) ≡ false → (l ≡ true → not keeps ≡ true)
      → Good c.rows (not (cond i (member last keeping_finals) (cond j (private_keeps c q last) keeps)))
      (cond i (plain_sequence c q last) (cond j (private_sequence c q last) (cond k (select_protection c q) (cond l (unedited (soft_reset c))
      (cond x (one_edit c (rectangle_edit c q last)) (cond e (select_extent c q) (unedited c)))))))
  families q last true j keeps k l x e n f = good-plain q last n _
  families q last false true keeps k l x e n f = good-private q last
  families q last false false keeps true l x e n f = good-protection _ q
  families q last false false keeps false true x e n f = rw (f refl) (good-soft-reset c p)
  families q last false false keeps false false true e n f = good-rectangle c p h _ q last
  families q last false false keeps false false false true n f = good-extent c p h _ q
  families q last false false keeps false false false false n f = good-unedited c _ p (λ _. h)

  pub good-sequenced : (q : Params) (mark first second last : ℕ) → ignored_sequence c q mark first second last ≡ false
      → Good c.rows (not (sequence_keeps c q mark first second last)) (sequenced c q mark first second last)
  unfolding sequenced
  good-sequenced q mark first second last n =
      families q last (is_plain mark first second) (is_private mark first second) (other_keeps mark first second last)
      (is_protection mark first second last) (is_soft_reset mark first second last) (is_dollar mark first second) (is_extent mark first second last) n
      (reset-clears mark first second last)
