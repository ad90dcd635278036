-- Lines of text, byte by byte: what is done on the display is what is done to the page and the column.
use Rattle.std.proofs.Common.{◌≡◌, ℕ, zero, suc, ◌+◌, ◌-◌, ◌*◌, ◌^◌, ◌<◌, ◌≤◌, Bool, true, false, cond, not, ◌&&◌, ◌||◌, eqb, ltb, List, [], ◌∷◌, ◌++◌, length, get_or, take, drop, sym, refl, ap, ◌∙◌, subst, ⊎_elim, add-zero, add-one, arith, ltb-true, ne_eqb, eqb-true}
use mathlib.Core.Bool.{false≢true}
use native.Mathlib.Nat.{add-sub_cancel_left}
use lib.Bits.{bit_or}
use lib.ListN.{length-take, length-drop}
use borrow.Author.Tests.{not-true}
use Rattle.ground.specs.Tests.{between}
use Rattle.ground.specs.Folds.{folded}
use Rattle.ground.specs.Spans.{span}
use Rattle.ground.proofs.SpanLaws.{span_none, span_more}
use Rattle.ground.proofs.ListLaws.{split-eq}
use Rattle.ground.proofs.TestLaws.{and_left, and_right, or_cases, or_left, or_right}
use Rattle.cells.specs.declared.runs.Pen.{Pen}
use Rattle.cells.specs.Runs.{is_character, pen_word}
use Rattle.cells.specs.Sets.{bits_of, changed}
use Rattle.page.specs.declared.Edit.TheVariants.{Put, ScrollUp}
use Rattle.page.specs.Edits.{applied}
use Rattle.scrolling.specs.Text.{is_text, all_text}
use Rattle.scrolling.specs.Lines.{Lines, line_byte, lines_over, all_known}
use Rattle.scrolling.proofs.KnownLaws.{known-scroll, known-put}
use Rattle.parser.specs.declared.phases.Phase.TheVariants.{Ground}
use Rattle.core_state.specs.declared.Core.{Core}
use Rattle.core_state.specs.Effects.{with_cursor}
use Rattle.core_state.specs.Glyphs.{glyph}
use Rattle.steps.specs.Ready.{Paged}
use Rattle.spans.specs.Spans.{Spanned, ByteDone}
use Rattle.spans.specs.Characters.{is_unshifted}
use Rattle.spans.specs.Direct.{scrolls_lines}
use Rattle.spans.proofs.SpannedLaws.{spanned-none, spanned-more}
use Rattle.spans.proofs.LineLaws.{Scrolls, in_column, return-done, feed-done, character-done}

text-snoc : (xs : List ℕ) (b : ℕ) → all_text (xs ++ (b ∷ [])) ≡ true → (all_text xs ≡ true) × (is_text b ≡ true)
unfolding all_text
text-snoc [] b h = (refl, and_left (is_text b) true h)
text-snoc (x ∷ xs) b h =
    let r = text-snoc xs b (and_right (is_text x) (all_text (xs ++ (b ∷ []))) h) in
    (rw (and_left (is_text x) (all_text (xs ++ (b ∷ []))) h) r.0, r.1)

fold-snoc : (f : Lines → ℕ → Lines) (s : Lines) (xs : List ℕ) (b : ℕ) → folded f s (xs ++ (b ∷ [])) ≡ f (folded f s xs) b
fold-snoc f s [] b = refl
fold-snoc f s (x ∷ xs) b = fold-snoc f (f s x) xs b

module _ (c : Core) (S : Scrolls c) (n : ℕ) (pen : Pen) (words : (b : ℕ) → pen_word pen b ≡ glyph c b)
    (known_up : (x : List ℕ) → length x ≡ 80 * c.rows
    → bit_or n (bits_of c.rows (changed x (applied c.rows (ScrollUp (c.margins.top - 1) c.margins.bottom 0 80 1) x))) ≡ n)
    (known-put : (x : List ℕ) (k w : ℕ) → length x ≡ 80 * c.rows → k < 80
    → bit_or n (bits_of c.rows (changed x (applied c.rows (Put (c.margins.bottom - 1) k w) x))) ≡ n) where
  abbrev byte : Lines → ℕ → Lines
  byte = line_byte c.rows (c.margins.top - 1) c.margins.bottom c.modes.newline pen

  abbrev over : Lines → List ℕ → Lines
  over = lines_over c.rows (c.margins.top - 1) c.margins.bottom c.modes.newline pen

  abbrev Done : Lines → ℕ → Lines → Type 0
  Done s b s' = ByteDone (in_column c s.column) n s.page b (in_column c s'.column) n s'.page

  text-done : (s : Lines) (b : ℕ) → Paged (in_column c s.column) s.page → is_text b ≡ true → Done s b (byte s b)
  unfolding line_byte
  text-done s b P t =
      ⊎_elim
      (λ (e : b ≡ 0x0D). rw e (return-done (in_column c s.column) n s.page P S.ground))
      (λ (no : b ≡ 0x0D → ⊥). ⊎_elim
      (λ (e : b ≡ 0x0A). rw e (feed-done c S s.column s.page P n (known_up s.page P.size)))
      (λ (not : b ≡ 0x0A → ⊥).
      let bounds = P.whole.parts.bounds in
      let char : is_character b ≡ true = or_cases (between 0x20 b 0x7E) (eqb b 0x0A || eqb b 0x0D) t (λ h. rw h)
      (λ h. absurd (or_cases (eqb b 0x0A) (eqb b 0x0D) h (λ i. not (eqb-true b 0x0A i)) (λ i. no (eqb-true b 0x0D i)))) in
      rw (ne_eqb b 0x0D no, ne_eqb b 0x0A not, words b)
      (character-done c S s.column s.page P n b (omega arith) char (known-put s.page (s.column - 1) (glyph c b) P.size (omega arith))))
      (split-eq b 0x0A))
      (split-eq b 0x0D)

  -- the bytes from place i on, after those before it
  module _ (c0 : Core) (n0 : ℕ) (p0 input : List ℕ) (from i : ℕ) (s : Lines) (R : Spanned c0 n0 p0 input from i (in_column c s.column) n s.page) where
    abbrev at : ℕ → Lines
    at k = over s (span input i (i + k))

    abbrev Ran : ℕ → Type 0
    Ran k = Spanned c0 n0 p0 input from (i + k) (in_column c (at k).column) n (at k).page

    none : Ran 0
    unfolding lines_over
    none = rw (add-zero i, span_none input i) R

    more : (k : ℕ) → i + (k + 1) ≤ length input → is_text (get_or input (i + k) 0) ≡ true → Ran k → Ran (k + 1)
    unfolding lines_over
    more k h t M =
        let b : ℕ = get_or input (i + k) 0 in
        let place : i + k + 1 ≡ i + (k + 1) = omega arith in
        let next : at (k + 1) ≡ byte (at k) b =
        rw (← place, span_more input i (i + k) (omega arith) (omega arith)) (fold-snoc byte s (span input i (i + k)) b) in
        subst (λ (j : ℕ). Spanned c0 n0 p0 input from j (in_column c (at (k + 1)).column) n (at (k + 1)).page) place
        (subst (λ (x : Lines). Spanned c0 n0 p0 input from (i + k + 1) (in_column c x.column) n x.page) (sym next)
        (spanned-more M (omega arith) b refl (text-done (at k) b M.paged t)))

    pub text-spanned : (k : ℕ) → i + k ≤ length input → all_text (span input i (i + k)) ≡ true → Ran k
    text-spanned zero h t = none
    text-spanned (suc k) h' t' =
        let h : i + (k + 1) ≤ length input = rw (← add-one k) at h' in
        let place : i + k + 1 ≡ i + (k + 1) = omega arith in
        let both = text-snoc (span input i (i + k)) (get_or input (i + k) 0)
        (rw (← add-one k, ← place, span_more input i (i + k) (omega arith) (omega arith)) at t') in
        rw (← add-one k) (more k h both.1 (text-spanned k (omega arith) both.0))

-- ---- a line feed, and the text that follows it

module _ (c : Core) (known : ℕ) (ground : c.parser.phase ≡ Ground) (h : scrolls_lines c known ≡ true) where
  pub scrolls : Scrolls c
  scrolls =
      let row = eqb c.cursor.row c.margins.bottom in
      let modes = c.modes.insert || c.modes.autowrap in
      let there = is_unshifted c.shift && ltb c.margins.top c.margins.bottom in
      let all = all_known known (c.margins.top - 1) (c.margins.bottom - (c.margins.top - 1)) in
      let rest = and_right row (not modes && (there && all)) h in
      let off = not-true modes (and_left (not modes) (there && all) rest) in
      let here = and_left there all (and_right (not modes) (there && all) rest) in
      record {
        ground = ground;
        unshifted = and_left (is_unshifted c.shift) (ltb c.margins.top c.margins.bottom) here;
        insert = or_left c.modes.insert c.modes.autowrap off;
        autowrap = or_right c.modes.insert c.modes.autowrap off;
        bottom = eqb-true c.cursor.row c.margins.bottom (and_left row (not modes && (there && all)) h);
        margins = ltb-true c.margins.top c.margins.bottom (and_right (is_unshifted c.shift) (ltb c.margins.top c.margins.bottom) here);
      }

  known_all : all_known known (c.margins.top - 1) (c.margins.bottom - (c.margins.top - 1)) ≡ true
  known_all = search (and_right)

-- with autowrap off no wrap is due
no_wrap : (c : Core) (p : List ℕ) → Paged c p → c.modes.autowrap ≡ false → c.cursor.wrap ≡ false
no_wrap c p P off = go c.cursor.wrap refl
  where
    go : (t : Bool) → c.cursor.wrap ≡ t → t ≡ false
    go true e = absurd (false≢true (sym off ∙ P.whole.wrap.mode e))
    go false e = refl

module _ (c : Core) (n : ℕ) (p input : List ℕ) (from : ℕ) (pen : Pen) (P : Paged c p) (ground : c.parser.phase ≡ Ground) (h : scrolls_lines c n ≡ true)
    (small : n < 2 ^ 64) (words : (b : ℕ) → pen_word pen b ≡ glyph c b) (more : from < length input) (feed : get_or input from 0 ≡ 0x0A) where
  S : Scrolls c
  S = scrolls c n ground h

  abbrev t : ℕ
  t = c.margins.top - 1

  abbrev e : ℕ
  e = c.margins.bottom

  known_up : (x : List ℕ) → length x ≡ 80 * c.rows → bit_or n (bits_of c.rows (changed x (applied c.rows (ScrollUp t e 0 80 1) x))) ≡ n
  known_up x hx =
      let bounds = P.whole.parts.bounds in
      let m = S.margins in
      known-scroll c.rows n t e (omega arith) small (known_all c n ground h) x hx (omega arith) (omega arith) 1 (omega arith)

  put-known : (x : List ℕ) (k w : ℕ) → length x ≡ 80 * c.rows → k < 80 → bit_or n (bits_of c.rows (changed x (applied c.rows (Put (e - 1) k w) x))) ≡ n
  put-known x k w hx hk =
      let bounds = P.whole.parts.bounds in
      let m = S.margins in
      known-put c.rows n t e (omega arith) small (known_all c n ground h) x hx (omega arith) (omega arith) (e - 1) k w (omega arith) (omega arith) hk

  abbrev first : Lines
  first = record { page = applied c.rows (ScrollUp t e 0 80 1) p; column = cond c.modes.newline 1 c.cursor.column }

  fed : Spanned c n p input from (from + 1) (in_column c first.column) n first.page
  fed =
      let start : c ≡ in_column c c.cursor.column =
      ap (λ (w : Bool). with_cursor c (record { row = c.cursor.row; column = c.cursor.column; wrap = w })) (no_wrap c p P S.autowrap) in
      let Q : Paged (in_column c c.cursor.column) p = subst (λ (x : Core). Paged x p) start P in
      spanned-more (spanned-none c n p input from P (omega arith)) more 0x0A (sym feed)
      (subst (λ (x : Core). ByteDone x n p 0x0A (in_column c first.column) n first.page) (sym start)
      (feed-done c S c.cursor.column p Q n (known_up p P.size)))

  pub lines-spanned : (text : List ℕ) → text ≡ take (length text) (drop (from + 1) input) → all_text text ≡ true → (q : List ℕ) (k : ℕ)
      → record { page = q; column = k } ≡ lines_over c.rows t e c.modes.newline pen first text
      → Spanned c n p input from (from + 1 + length text) (in_column c k) n q
  lines-spanned text is plain q k after =
      let size : length text ≤ length input - (from + 1) =
      omega (arith, ap length is, length-take (length text) (drop (from + 1) input), length-drop (from + 1) input) in
      let there : span input (from + 1) (from + 1 + length text) ≡ text =
      ap (λ (k : ℕ). take k (drop (from + 1) input)) (add-sub_cancel_left (from + 1) (length text)) ∙ sym is in
      let all = text-spanned c S n pen words known_up put-known c n p input from (from + 1) first fed (length text) (omega arith) (rw there plain) in
      subst (λ (x : Lines). Spanned c n p input from (from + 1 + length text) (in_column c x.column) n x.page) (sym after) (rw there at all)
