-- The words that a byte's edits bring in are printable: a character's code is a sign of its set, SUB's is 1A, and what else enters is
-- blank or E.
use Rattle.std.proofs.Common.{◌≡◌, ℕ, ◌%◌, ◌<◌, ◌≤◌, Bool, true, false, Some, None, cond, not, ◌&&◌, ◌||◌, eqb, ltb, leb, refl, ap, arith, eqb-true, le-leb, leb-false, leb-true}
use borrow.Author.Tests.{eqb-false, not-true}
use Rattle.cells.specs.declared.CharSet.{CharSet}
use Rattle.cells.specs.declared.CharSet.TheVariants.{Ascii, SpecialGraphics, Supplemental, Latin1}
use Rattle.page.specs.declared.Edit.{Edit}
use Rattle.page.specs.declared.Edit.TheVariants.{Keep}
use Rattle.cells.specs.Cells.{blank, plain_cell, has_sign, Printable}
use Rattle.page.specs.Edits.{entering}
use Rattle.cells.proofs.CellLaws.{packed-printable, blank-printable}
use Rattle.parser.specs.declared.params.Params.{Params}
use Rattle.parser.specs.Params.{param}
use Rattle.parser.specs.declared.phases.Phase.{Phase}
use Rattle.parser.specs.declared.phases.Transition.{Transition}
use Rattle.parser.specs.declared.phases.Op.{Op}
use Rattle.parser.specs.declared.phases.Op.TheVariants.{Print}
use Rattle.parser.specs.declared.parser.Parser.{Parser}
use Rattle.parser.specs.declared.parser.Action.{Action}
use Rattle.parser.specs.declared.parser.Action.TheVariants.{Nothing, Character, Substitute, Control, C1Control, EscapeSequence, ControlSequence}
use Rattle.parser.specs.Parser.{to, lowered, transition, action_of, decode}
use Rattle.ground.specs.Tests.{between}
use Rattle.ground.proofs.TestLaws.{either, and_left, and_right, or_left, or_right}
use Rattle.device.specs.declared.charsets.SingleShift.TheVariants.{NoShift}
use Rattle.device.specs.declared.cursor.Cursor.{Cursor}
use Rattle.core_state.specs.declared.Core.{Core}
use Rattle.core_state.specs.declared.Decision.{Decision}
use Rattle.vt.specs.declared.printing.Printed.{Printed}
use Rattle.core_state.specs.Geometry.{stops_of}
use Rattle.core_state.specs.Effects.{with_shift, with_parser, one_edit}
use Rattle.core_state.specs.Glyphs.{used_set, skipped, shown_set, cell_word, glyph}
use Rattle.rectangles.specs.declared.areas.Area.{Area}
use Rattle.rectangles.specs.Areas.{area_at, is_taken}
use Rattle.rectangles.specs.Attributes.{restyling_of}
use Rattle.rectangles.specs.Functions.{is_graphic, is_printed, fill_rectangle, if_styled, change_attributes, copy_rectangle, rectangle_edit}
use Rattle.rectangles.proofs.CodeLaws.{graphic-byte}
use Rattle.vt.specs.Printing.{put_edit, line_start, next_line, printed_in, put, printed, substituted}
use Rattle.vt.specs.Controls.{index_from, controlled, c1_controlled}
use Rattle.vt.specs.Escapes.{align_screen, escaped}
use Rattle.csi.specs.Sequences.{sequenced}
use Rattle.wholeness.proofs.SoundParser.{lowered-low}
use Rattle.dispatch.specs.Heard.{is_heard, heard}
use Rattle.dispatch.specs.WrapDue.{clears_wrap, with_wrap_policy}
use Rattle.dispatch.specs.Decide.{effect, executed, decided}

-- ---- what a decision brings in

pub record Brings (d : Decision) : Type 0 where
  pub first : Printable (entering d.first)
  pub second : Printable (entering d.second)

-- an edit that brings in blanks or nothing; one that is made only where a test holds
brings-none : (c : Core) (e : Edit) → entering e ≡ blank → Brings (one_edit c e)
brings-none c e h = record { first = rw h blank-printable; second = blank-printable }

brings-tested : (c : Core) (t : Bool) (e : Edit) → entering e ≡ blank → Brings (one_edit c (cond t e Keep))
brings-tested c true e h = brings-none c e h
brings-tested c false e h = brings-none c Keep refl

-- both arms of a test, whatever it says
brings-both : (t : Bool) {x y : Decision} → Brings x → Brings y → Brings (cond t x y)
brings-both t f g = either Brings t (λ _. f) (λ _. g)

-- a function is a chain of tests
ruleset brings = (brings-both, brings-none, brings-tested)

wrap-policy-brings : (t : Bool) (d : Decision) → Brings d → Brings (with_wrap_policy t d)
wrap-policy-brings true d h = record { first = h.first; second = h.second }
wrap-policy-brings false d h = h

-- ---- characters

-- what the parser takes for a character: 20 to 7F, or A0 to FF
abbrev Graphic : Action → Type 0
Graphic Nothing = Unit {0}
Graphic (Character b) = (0x20 ≤ b % 128) × (b < 256)
Graphic Substitute = Unit {0}
Graphic (Control b) = Unit {0}
Graphic (C1Control b) = Unit {0}
Graphic (EscapeSequence first second last) = Unit {0}
Graphic (ControlSequence f) = Unit {0}

module _ (s : Parser) (b : ℕ) (h : b < 256) where
  record Fine (t : Transition) : Type 0 where
    fine : Graphic (action_of s t.op b)

  fine-to : (p : Phase) (o : Op) → Graphic (action_of s o b) → Fine (to p o)
  fine-to p o g = record { fine = g }

  fine-either : (t : Bool) {x y : Transition} → (t ≡ true → Fine x) → (t ≡ false → Fine y) → Fine (cond t x y)
  fine-either t f g = either Fine t f g

  -- in ground a byte from 20 on that is not 80 to 9F is a character
  graphic : between 0x80 b 0x9F ≡ false → ltb b 0x20 ≡ false → 0x20 ≤ b % 128
  graphic off e =
      let l : 0x20 ≤ lowered b = lowered-low b off e in
      let same : b % 128 ≡ lowered b = either (λ (x : ℕ). b % 128 ≡ x) (leb 0x80 b) (λ i. omega (arith, leb-true)) (λ i. omega (arith, leb-false)) in
      omega arith

  printed-fine : between 0x80 b 0x9F ≡ false → ltb b 0x20 ≡ false → Fine (to s.phase Print)
  printed-fine off e = record { fine = (graphic off e, h) }

  decode-graphic : Graphic (decode s b).action
  unfolding decode transition
  decode-graphic = let f : Fine (transition s.phase b) = search (fine-either, printed-fine, fine-to, tt) depth 30 fits 5000 in f.fine

-- the code that a character puts is a sign of the set that it puts
module _ (b : ℕ) (l : 0x20 ≤ b % 128) (h : b < 256) where
  -- of a set with 94 signs
  sign-94 : (s : CharSet) → ((x : ℕ) → 0x21 ≤ x → x ≤ 0x7E → has_sign s x ≡ true) → ((eqb b 0x7F || eqb b 0xA0) || eqb b 0xFF) ≡ false
      → has_sign (cond (eqb b 0x20) Ascii s) (b % 128) ≡ true
  sign-94 s f e =
      either (λ (x : CharSet). has_sign x (b % 128) ≡ true) (eqb b 0x20) (λ q. ap (λ (x : ℕ). has_sign Ascii (x % 128)) (eqb-true b 0x20 q))
      (λ q.
      let first = or_left (eqb b 0x7F || eqb b 0xA0) (eqb b 0xFF) e in
      let a = eqb-false b 0x7F (or_left (eqb b 0x7F) (eqb b 0xA0) first) in
      let d = eqb-false b 0xA0 (or_right (eqb b 0x7F) (eqb b 0xA0) first) in
      let g = eqb-false b 0xFF (or_right (eqb b 0x7F || eqb b 0xA0) (eqb b 0xFF) e) in
      let n = eqb-false b 0x20 q in
      f (b % 128) (omega arith) (omega arith))

  sign_of : (s : CharSet) → skipped s b ≡ false → has_sign (shown_set s b) (b % 128) ≡ true
  sign_of Ascii e = sign-94 Ascii (λ x i j. rw (le-leb 0x20 x (omega arith), le-leb x 0x7E j)) e
  sign_of SpecialGraphics e = sign-94 SpecialGraphics (λ x i j. rw (le-leb 0x21 x i, le-leb x 0x7E j)) e
  sign_of Supplemental e = sign-94 Supplemental (λ x i j. rw (le-leb 0x21 x i, le-leb x 0x7E j)) e
  sign_of Latin1 e = let m : b % 128 ≤ 0x7F = omega arith in rw (le-leb 0x20 (b % 128) l, le-leb (b % 128) 0x7F m)

abbrev Enters : Edit → Type 0
Enters e = Printable (entering e)

module _ (c : Core) where
  put-enters : (u : Cursor) (w : ℕ) → Printable w → Enters (put_edit c.modes.insert (stops_of c) u w)
  put-enters u w h = either Enters c.modes.insert (λ _. h) (λ _. h)

  put-brings : (w : ℕ) → Printable w → Brings (put c w)
  unfolding put
  put-brings w h =
      either (λ (x : Printed). Brings (printed_in c x)) c.cursor.wrap
      (λ _. record { first = scrolled.first; second = put-enters (next_line c.margins c.rows (stops_of c) c.cursor) w h })
      (λ _. record { first = put-enters c.cursor w h; second = blank-printable })
    where
      scrolled : Brings (index_from c (line_start (stops_of c) c.cursor))
      scrolled = search brings

printed-brings : (c : Core) (b : ℕ) → 0x20 ≤ b % 128 → b < 256 → Brings (printed c b)
unfolding printed
printed-brings c b l h =
    either Brings (skipped (used_set c b) b) (λ _. brings-none _ _ refl)
    (λ e. put-brings (with_shift c NoShift) (glyph c b) (packed-printable _ (omega arith) (sign_of b l h (used_set c b) e)))

substituted-brings : (c : Core) → Brings (substituted c)
unfolding substituted
substituted-brings c = put-brings c (cell_word c 0x1A Ascii) (packed-printable _ (omega arith) refl)

-- ---- functions: nothing enters but blanks, and E

module _ (c : Core) where
  control-brings : (b : ℕ) → Brings (controlled c b)
  unfolding controlled
  control-brings b = search brings depth 12

  c1-brings : (b : ℕ) → Brings (c1_controlled c b)
  unfolding c1_controlled
  c1-brings b = search brings depth 12

  align-brings : Brings (align_screen c)
  align-brings = record { first = packed-printable (plain_cell 0x45) (omega arith) refl; second = blank-printable }

  escape-brings : (first second last : ℕ) → Brings (escaped c first second last)
  unfolding escaped
  escape-brings first second last = search (brings, align-brings) depth 20 fits 3000

  -- a code that fills is one that printing would put
  fill-enters : (q : Params) (a : Area) → Enters (fill_rectangle c q a)
  fill-enters q a =
      let n = param q 0 in
      let d = with_shift c NoShift in
      either Enters (is_printed c n)
      (λ e.
      let b = graphic-byte n (and_left (is_graphic n) (not (skipped (used_set d n) n)) e) in
      packed-printable _ (omega arith)
      (sign_of n b.1 b.0 (used_set d n) (not-true (skipped (used_set d n) n) (and_right (is_graphic n) (not (skipped (used_set d n) n)) e))))
      (λ _. blank-printable)

  rectangle-enters : (q : Params) (last : ℕ) → Enters (rectangle_edit c q last)
  rectangle-enters q last =
      let a = area_at c q (cond (eqb last 0x78) 1 0) in
      let m = c.modes.rectangle in
      let styles : (r : Bool) → Enters (change_attributes m q a r) = λ r.
      elim (restyling_of r q) as (λ o. Enters (if_styled m a o)) [ Some s ↦ either Enters m (λ _. blank-printable) (λ _. blank-printable) | None ↦ blank-printable ] in
      let copies : Enters (copy_rectangle c q a) =
      either Enters (leb (param q 4) 1 && leb (param q 7) 1) (λ _. blank-printable) (λ _. blank-printable) in
      either Enters (is_taken a)
      (λ _. either Enters (eqb last 0x72) (λ _. styles false) (λ _. either Enters (eqb last 0x74) (λ _. styles true)
      (λ _. either Enters (eqb last 0x76) (λ _. copies) (λ _. either Enters (eqb last 0x78) (λ _. fill-enters q a)
      (λ _. either Enters (eqb last 0x7A) (λ _. blank-printable) (λ _. either Enters (eqb last 0x7B) (λ _. blank-printable) (λ _. blank-printable)))))))
      (λ _. blank-printable)

  rectangle-brings : (q : Params) (last : ℕ) → Brings (one_edit c (rectangle_edit c q last))
  rectangle-brings q last = record { first = rectangle-enters q last; second = blank-printable }

  sequence-brings : (q : Params) (mark first second last : ℕ) → Brings (sequenced c q mark first second last)
  unfolding sequenced
  sequence-brings q mark first second last = search (rectangle-brings, brings) depth 30 fits 3000

-- ---- one byte

effect-brings : (c : Core) (a : Action) → Graphic a → Brings (effect c a)
effect-brings c Nothing g = brings-none c Keep refl
effect-brings c (Character b) g = printed-brings c b g.0 g.1
effect-brings c Substitute g = substituted-brings c
effect-brings c (Control b) g = control-brings c b
effect-brings c (C1Control b) g = c1-brings c b
effect-brings c (EscapeSequence first second last) g = escape-brings c first second last
effect-brings c (ControlSequence f) g = sequence-brings c c.parser.params f.mark f.first f.second f.last

pub executed-brings : (c : Core) (a : Action) → Graphic a → Brings (executed c a)
unfolding executed
executed-brings c a g =
    wrap-policy-brings (clears_wrap c a) (effect c (heard c a))
    (either (λ x. Brings (effect c x)) (is_heard c a) (λ _. effect-brings c a g) (λ _. brings-none c Keep refl))

-- the words that a byte's edits bring in are printable
pub decided-brings : (c : Core) (b : ℕ) → b < 256 → Brings (decided c b)
unfolding decided
decided-brings c b h = executed-brings (with_parser c (decode c.parser b).parser) (decode c.parser b).action (decode-graphic c.parser b h)
