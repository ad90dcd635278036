-- Characters: one is one step, which moves the cursor and puts or inserts a cell; several in a row are a paste.
use Rattle.std.proofs.Common.{◌≡◌, ℕ, zero, suc, ◌+◌, ◌-◌, ◌*◌, ◌^◌, ◌<◌, ◌≤◌, Bool, true, false, not, ◌&&◌, ◌||◌, eqb, leb, List, map, length, get_or, take, drop, set, sym, refl, ap, ◌∙◌, ap₂, ⊎_elim, add-zero, zero-mul, add-one, arith, length-drop, get_or-drop, le-ltb, lt-ltb, ne_eqb, eqb-true, le-leb}
use mathlib.Core.Bool.{false≢true, and-false}
use lib.Bits.{bit_or, or_zero_r, or_self}
use lib.Seq.{paste, paste-zero}
use borrow.Author.Tests.{lt-leb, not-true}
use Rattle.std.proofs.lemmas.List.{get_or-map}
use Rattle.ground.proofs.ListLaws.{split-lt}
use Rattle.ground.proofs.TestLaws.{and_left, and_right, or_cases, between-low, between-high}
use Rattle.ground.specs.Tests.{between}
use Rattle.cells.specs.Cells.{bit}
use Rattle.cells.specs.Rows.{differs}
use Rattle.cells.specs.declared.runs.Pen.{Pen}
use Rattle.cells.specs.Runs.{is_character, pen_word}
use Rattle.cells.specs.Segments.{Pasted}
use Rattle.cells.proofs.BitLaws.{bit-or-assoc}
use Rattle.cells.proofs.ChangeLaws.{changed-none}
use Rattle.cells.proofs.Storing.{pasted-up}
use Rattle.page.specs.declared.Edit.TheVariants.{Keep, Put, InsertCells}
use Rattle.page.specs.Writes.{Edited, Fits, AppliedOver}
use Rattle.page.proofs.EditLaws.{keep-applied}
use Rattle.page.proofs.KnownRows.{edited-over}
use Rattle.page.proofs.OneRow.{put-edited}
use Rattle.parser.specs.declared.phases.Phase.TheVariants.{Ground}
use Rattle.parser.proofs.PhaseLaws.{phase-same}
use Rattle.parser.specs.Phases.{is_ground}
use Rattle.parser.specs.declared.parser.Decoded.{Decoded}
use Rattle.device.specs.declared.charsets.SingleShift.{SingleShift}
use Rattle.device.specs.declared.charsets.SingleShift.TheVariants.{NoShift, Ss2, Ss3}
use Rattle.device.specs.Charsets.{has96}
use Rattle.device.specs.declared.cursor.Cursor.{Cursor}
use Rattle.device.specs.Cursor.{advance}
use Rattle.core_state.specs.declared.Core.{Core}
use Rattle.core_state.specs.Effects.{with_cursor, with_shift, one_edit}
use Rattle.core_state.specs.Geometry.{right_stop, stops_of}
use Rattle.core_state.specs.Glyphs.{used_set, is_edge, skipped, glyph}
use Rattle.core_state.specs.Pens.{pen_of}
use Rattle.core_state.proofs.PenLaws.{pen-glyph}
use Rattle.vt.specs.Printing.{put_edit, put, printed}
use Rattle.dispatch.specs.Decide.{decided}
use Rattle.dispatch.specs.Events.{is_eventful}
use Rattle.dispatch.proofs.PlainByte.{graphic, plain-decode, plain-decides}
use Rattle.steps.specs.OneDisplay.{Quiet}
use Rattle.steps.specs.Ready.{Paged}
use Rattle.spans.specs.Spans.{Spanned, ByteDone}
use Rattle.spans.specs.Characters.{is_unshifted, prints_directly, Direct, advance_by}
use Rattle.spans.proofs.ByteLaws.{done-by}
use Rattle.spans.proofs.SpannedLaws.{spanned-none, spanned-more}

-- ---- what the tests tell

pub unshifted-is : (x : SingleShift) → is_unshifted x ≡ true → x ≡ NoShift
unshifted-is NoShift e = refl
unshifted-is Ss2 e = absurd (false≢true e)
unshifted-is Ss3 e = absurd (false≢true e)

-- 20 to 7E or A1 to FE
record Character (b : ℕ) : Type 0 where
  graphic-is : graphic b ≡ true
  shown : is_edge b ≡ false

character-is : (b : ℕ) → is_character b ≡ true → Character b
character-is b e = or_cases (between 0x20 b 0x7E) (between 0xA1 b 0xFE) e
    (λ h. let l = between-low 0x20 b 0x7E h in let u = between-high 0x20 b 0x7E h in
    record { graphic-is = rw (le-leb 0x20 b l, lt-leb 0x80 b (omega arith)); shown = other (omega arith) })
    (λ h. let l = between-low 0xA1 b 0xFE h in let u = between-high 0xA1 b 0xFE h in
    record { graphic-is = rw (le-leb 0x20 b (omega arith), lt-leb b 0x9F (omega arith), and-false (leb 0x80 b)); shown = other (omega arith) })
  where
    other : (b ≡ 0x7F → ⊥) × (b ≡ 0xA0 → ⊥) × (b ≡ 0xFF → ⊥) → is_edge b ≡ false
    other (x, y, z) = rw (ne_eqb b 0x7F x, ne_eqb b 0xA0 y, ne_eqb b 0xFF z)

-- ---- one character

-- no shift is pending where characters are just put
pub no_shift : (c : Core) → prints_directly c ≡ true → c.shift ≡ NoShift
no_shift c plain = unshifted-is c.shift (search (and_left, and_right))

-- the cursor goes on
abbrev pub advanced : Core → Core
advanced c = with_cursor c (advance c.cursor (right_stop c) c.modes.autowrap)

module _ (c : Core) (b : ℕ) (plain : prints_directly c ≡ true) (char : is_character b ≡ true) where
  ground : c.parser.phase ≡ Ground
  ground = phase-same c.parser.phase Ground (and_left (is_ground c.parser.phase) (is_unshifted c.shift && not c.cursor.wrap) plain)

  no_wrap : c.cursor.wrap ≡ false
  no_wrap = not-true c.cursor.wrap (search (and_left, and_right))

  pub put-quiet : Quiet c b
  put-quiet = ap (λ (d : Decoded). is_eventful d.action) (plain-decode c.parser b ground (character-is b char).graphic-is)

  unskipped : skipped (used_set c b) b ≡ false
  unskipped = ap (λ (t : Bool). not (has96 (used_set c b)) && t) (character-is b char).shown ∙ and-false (not (has96 (used_set c b)))

  printed-put : printed c b ≡ put c (glyph c b)
  unfolding printed
  printed-put = rw unskipped (ap (λ (x : SingleShift). put (with_shift c x) (glyph c b)) (sym (no_shift c plain)))

  put-here : put c (glyph c b) ≡ one_edit (advanced c) (put_edit c.modes.insert (stops_of c) c.cursor (glyph c b))
  unfolding put
  put-here = rw no_wrap

  pub put-decides : one_edit (advanced c) (put_edit c.modes.insert (stops_of c) c.cursor (glyph c b)) ≡ decided c b
  put-decides = sym (printed-put ∙ put-here) ∙ plain-decides c b ground (character-is b char).graphic-is

  -- put, or in insert mode inserted
  print-decides : (t : Bool) (w : ℕ) → c.modes.insert ≡ t → w ≡ glyph c b → one_edit (advanced c) (put_edit t (stops_of c) c.cursor w) ≡ decided c b
  print-decides t w et ew = ap₂ (λ (x : Bool) (y : ℕ). one_edit (advanced c) (put_edit x (stops_of c) c.cursor y)) (sym et) ew ∙ put-decides

-- one that its set ignores does nothing, whatever shift is pending
edge-graphic : (b : ℕ) → is_edge b ≡ true → graphic b ≡ true
edge-graphic b e =
    or_cases (eqb b 0x7F || eqb b 0xA0) (eqb b 0xFF) e (λ h. or_cases (eqb b 0x7F) (eqb b 0xA0) h (is 0x7F refl) (is 0xA0 refl)) (is 0xFF refl)
  where
    is : (k : ℕ) → graphic k ≡ true → eqb b k ≡ true → graphic b ≡ true
    is k g h = rw (eqb-true b k h) g

module _ (c : Core) (n : ℕ) (p : List ℕ) (b : ℕ) (P : Paged c p) (ground : c.parser.phase ≡ Ground) (none : skipped (used_set c b) b ≡ true) where
  drawn : graphic b ≡ true
  drawn = edge-graphic b (and_right (not (has96 (used_set c b))) (is_edge b) none)

  ignored : one_edit c Keep ≡ decided c b
  unfolding printed
  ignored = rw none at (plain-decides c b ground drawn)

  pub edge-done : ByteDone c n p b c n p
  edge-done =
      done-by c n p b c Keep p n P (ap (λ (d : Decoded). is_eventful d.action) (plain-decode c.parser b ground drawn)) ignored refl
      (sym (keep-applied c.rows p P.size)) (sym (ap (bit_or n) (changed-none c.rows p) ∙ or_zero_r n))

module _ (c : Core) (n : ℕ) (p : List ℕ) (b : ℕ) (D : Direct c p) (char : is_character b ≡ true) (w : ℕ) (ew : w ≡ glyph c b) where
  pub insert-fits : Fits c.rows (InsertCells (c.cursor.row - 1) (c.cursor.column - 1) 80 1 w) p
  insert-fits =
      let bounds = D.paged.whole.parts.bounds in
      record { long = D.paged.size; few = omega arith; within = record { row = omega arith; column = omega arith; end = omega arith; count = omega arith } }

  pub insert-done : (q : List ℕ) (n' : ℕ) → c.modes.insert ≡ true → AppliedOver c.rows (InsertCells (c.cursor.row - 1) (c.cursor.column - 1) 80 1 w) p q n n'
      → ByteDone c n p b (advanced c) n' q
  insert-done q n' on A =
      done-by c n p b (advanced c) _ q n' D.paged (put-quiet c b D.direct char) (print-decides c b D.direct char true w on ew) refl A.page A.marked

  pub put-done : (q : List ℕ) (m n' : ℕ) → c.modes.insert ≡ false → Edited (Put (c.cursor.row - 1) (c.cursor.column - 1) w) p q m → n' ≡ bit_or n m
      → ByteDone c n p b (advanced c) n' q
  put-done q m n' off E en =
      let bounds = D.paged.whole.parts.bounds in
      let A : AppliedOver c.rows (Put (c.cursor.row - 1) (c.cursor.column - 1) w) p q n (bit_or n m) =
      edited-over (record { long = D.paged.size; few = omega arith; within = (omega arith, omega arith) }) refl E in
      done-by c n p b (advanced c) _ q n' D.paged (put-quiet c b D.direct char) (print-decides c b D.direct char false w off ew) refl A.page
      (en ∙ A.marked)

-- after it, before the last column, characters are just put again
pub direct-on : (c : Core) (p : List ℕ) (u : Cursor) (q : List ℕ) → Direct c p → Paged (with_cursor c u) q → u.column < 80 → Direct (with_cursor c u) q
direct-on c p u q D P l =
    let ground = is_ground c.parser.phase in
    let there = is_unshifted c.shift in
    let rest = and_right ground (there && not c.cursor.wrap) D.direct in
    record {
      direct = rw (and_left ground (there && not c.cursor.wrap) D.direct, and_left there (not c.cursor.wrap) rest, no_wrap u.wrap refl);
      paged = P;
    }
  where
    no_wrap : (t : Bool) → u.wrap ≡ t → t ≡ false
    no_wrap true e = let full : u.column ≡ 80 = P.whole.wrap.column e in absurd (omega arith)
    no_wrap false e = refl

-- ---- several in a row

-- a bit that is set, or not, twice
bit-twice : (n x : ℕ) (f g : Bool) → bit_or (bit_or n (bit f * x)) (bit g * x) ≡ bit_or n (bit (f || g) * x)
bit-twice n x true true = bit-or-assoc n (1 * x) (1 * x) ∙ ap (bit_or n) (or_self (1 * x))
bit-twice n x true false = rw (zero-mul x) (or_zero_r (bit_or n (1 * x)))
bit-twice n x false true = rw (zero-mul x) (ap (λ (m : ℕ). bit_or m (1 * x)) (or_zero_r n))
bit-twice n x false false = rw (zero-mul x) (or_zero_r (bit_or n 0))

module _ (u : Cursor) (on : Bool) where
  abbrev column : ℕ → Cursor
  column k = record { row = u.row; column = u.column + k; wrap = false }

  advance-within : (k : ℕ) → u.column + k ≤ 80 → advance_by u k on ≡ column k
  advance-within k h = rw (le-leb (u.column + k) 80 h)

  advance-next : (k : ℕ) → u.column + k ≤ 80 → advance (column k) 80 on ≡ advance_by u (k + 1) on
  advance-next k h =
      ⊎_elim
      (λ (l : u.column + k < 80). rw (lt-ltb (u.column + k) 80 l, le-leb (u.column + (k + 1)) 80 (omega arith))
      (ap (λ (x : ℕ). record { row = u.row; column = x; wrap = false }) (omega arith)))
      (λ (l : 80 ≤ u.column + k). rw (le-ltb (u.column + k) 80 l, lt-leb (u.column + (k + 1)) 80 (omega arith))
      (ap (λ (x : ℕ). record { row = u.row; column = x; wrap = on }) (omega arith)))
      (split-lt (u.column + k) 80)

module _ (c : Core) (n : ℕ) (p input : List ℕ) (from : ℕ) (s : List ℕ) (D : Direct c p) (insert : c.modes.insert ≡ false) where
  abbrev pub at : ℕ
  at = 80 * (c.cursor.row - 1) + (c.cursor.column - 1)

  abbrev pub flag : ℕ → Bool
  flag k = differs (take k (drop at p)) (take k s)

  -- there is room for k of them, they are characters, and s has their words
  pub record Run (k : ℕ) : Type 0 where
    pub room : c.cursor.column + k ≤ 81
    pub end : from + k ≤ length input
    pub words : k ≤ length s
    pub characters : (j : ℕ) → j < k → is_character (get_or input (from + j) 0) ≡ true
    pub glyphs : (j : ℕ) → j < k → get_or s j 0 ≡ glyph c (get_or input (from + j) 0)

  abbrev pub after : ℕ → Core
  after k = with_cursor c (advance_by c.cursor k c.modes.autowrap)

  abbrev pub Ran : ℕ → Type 0
  Ran k = Spanned c n p input from (from + k) (after k) (bit_or n (bit (flag k) * 2 ^ (c.cursor.row - 1))) (paste p at s k)

  wrap-off : c.cursor.wrap ≡ false
  wrap-off = not-true c.cursor.wrap (let d = D.direct in search (and_left, and_right))

  none : from ≤ length input → Ran 0
  none h =
      let bounds = D.paged.whole.parts.bounds in
      let start : advance_by c.cursor 0 c.modes.autowrap ≡ c.cursor =
      advance-within c.cursor c.modes.autowrap 0 (omega arith)
      ∙ ap₂ (λ (k : ℕ) (w : Bool). record { row = c.cursor.row; column = k; wrap = w }) (add-zero c.cursor.column) (sym wrap-off) in
      rw (add-zero from, start, zero-mul (2 ^ (c.cursor.row - 1)), or_zero_r n, ← paste-zero p at s) (spanned-none c n p input from D.paged h)

  module _ (k : ℕ) (X : Run (k + 1)) (R : Ran k) where
    abbrev u : Cursor
    u = column c.cursor c.modes.autowrap k

    abbrev ck : Core
    ck = with_cursor c u

    abbrev q : List ℕ
    q = paste p at s k

    abbrev nk : ℕ
    nk = bit_or n (bit (flag k) * 2 ^ (c.cursor.row - 1))

    abbrev w : ℕ
    w = get_or s k 0

    abbrev b : ℕ
    b = get_or input (from + k) 0

    low : c.cursor.column + k ≤ 80
    low = let r = X.room in omega arith

    there : Spanned c n p input from (from + k) ck nk q
    there = rw (advance-within c.cursor c.modes.autowrap k low) at R

    direct : prints_directly ck ≡ true
    direct = rw wrap-off at D.direct

    abbrev g : Bool
    g = not (eqb (get_or q (at + k) 0) w)

    pasted : Pasted p (set q (at + k) w) at s (k + 1) (flag k || g)
    pasted =
        let bounds = D.paged.whole.parts.bounds in
        let size = D.paged.size in
        let words = X.words in
        pasted-up (record { page = refl; flagged = refl }) w (flag k || g) (let l = low in omega arith) (omega arith) refl refl

    put-fits : AppliedOver c.rows (Put (c.cursor.row - 1) (c.cursor.column + k - 1) w) q (set q (at + k) w) nk (bit_or nk (bit g * 2 ^ (c.cursor.row - 1)))
    put-fits =
        let bounds = D.paged.whole.parts.bounds in
        let size = there.paged.size in
        let l = low in
        edited-over (record { long = size; few = omega arith; within = (omega arith, omega arith) }) refl
        (put-edited w (record { top = omega arith; end = omega arith; few = omega arith; left = omega arith; right = omega arith }) (omega arith) refl)

    decides : one_edit (advanced ck) (Put (c.cursor.row - 1) (c.cursor.column + k - 1) w) ≡ decided ck b
    decides =
        ap (one_edit (advanced ck)) (ap (Put (c.cursor.row - 1) (c.cursor.column + k - 1)) (X.glyphs k (omega arith))
        ∙ ap (λ (t : Bool). put_edit t (stops_of ck) u (glyph ck b)) (sym insert))
        ∙ put-decides ck b direct (X.characters k (omega arith))

    step : Spanned c n p input from (from + k + 1) (advanced ck) (bit_or nk (bit g * 2 ^ (c.cursor.row - 1))) (set q (at + k) w)
    step =
        let end = X.end in
        spanned-more there (omega arith) b refl
        (done-by ck nk q b (advanced ck) _ (set q (at + k) w) _ there.paged (put-quiet ck b direct (X.characters k (omega arith))) decides refl
        put-fits.page put-fits.marked)

    more : Ran (k + 1)
    more =
        let place : from + k + 1 ≡ from + (k + 1) = omega arith in
        rw (← place, ← advance-next c.cursor c.modes.autowrap k low, ← pasted.page, ← pasted.flagged, ← bit-twice n (2 ^ (c.cursor.row - 1)) (flag k) g) step

  shorter : (k : ℕ) → Run (k + 1) → Run k
  shorter k X = record {
    room = let r = X.room in omega arith;
    end = let r = X.end in omega arith;
    words = let r = X.words in omega arith;
    characters = λ j l. X.characters j (omega arith);
    glyphs = λ j l. X.glyphs j (omega arith);
  }

  pub run-spanned : (k : ℕ) → Run k → Ran k
  run-spanned zero X = none (let r = X.end in omega arith)
  run-spanned (suc k) X' = let X = rw (← add-one k) at X' in rw (← add-one k) (more k X (run-spanned k (shorter k X)))

-- the words that a pen makes of an input's characters
pub words-glyphs : (c : Core) (pen : Pen) (input : List ℕ) (from : ℕ) → prints_directly c ≡ true → pen ≡ pen_of c.rendition c.protected c.sets
    → (k : ℕ) → from + k ≤ length input → (j : ℕ) → j < k → get_or (map (pen_word pen) (drop from input)) j 0 ≡ glyph c (get_or input (from + j) 0)
words-glyphs c pen input from plain is k h j l =
    get_or-map (pen_word pen) (drop from input) j 0 0 (simp length-drop (omega arith))
    ∙ ap (pen_word pen) (get_or-drop from input j 0)
    ∙ ap (λ (x : Pen). pen_word x (get_or input (from + j) 0)) is ∙ pen-glyph c (get_or input (from + j) 0) (no_shift c plain)
