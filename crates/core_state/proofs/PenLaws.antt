-- The words of a pen are those of the cells that characters put, and fit.
use Rattle.std.specs.Prelude.{◌≡◌, ℕ, ◌+◌, ◌*◌, ◌%◌, ◌<◌, Bool, cond, eqb, ltb}
use mathlib.Core.Path.{ap}
use mathlib.Core.Bool.{and-false}
use mathlib.Core.Logic.{⊎_elim}
use native.Mathlib.Omega.{arith}
use borrow.Author.Tests.{eqb-true, ne_eqb}
use Rattle.ground.proofs.ListLaws.{known, split-eq}
use Rattle.cells.specs.declared.CharSet.{CharSet}
use Rattle.cells.specs.declared.CharSet.TheVariants.{Ascii, SpecialGraphics, Supplemental, Latin1}
use Rattle.cells.specs.declared.Rendition.{Rendition}
use Rattle.cells.specs.declared.runs.Pen.{Pen}
use Rattle.cells.specs.Cells.{set_number, packed}
use Rattle.cells.specs.Runs.{pen_word, PenFits}
use Rattle.cells.proofs.CellLaws.{packed-small}
use Rattle.device.specs.declared.charsets.Sets.{Sets}
use Rattle.device.specs.declared.charsets.SingleShift.TheVariants.{NoShift}
use Rattle.device.specs.Charsets.{has96, left_set, right_set}
use Rattle.core_state.specs.declared.Core.{Core}
use Rattle.core_state.specs.Glyphs.{cell_word, glyph, shown_set}
use Rattle.core_state.specs.Pens.{flag_bits, left_base, right_base, space_base, pen_of}

set-small : (s : CharSet) → set_number s < 4
set-small Ascii = omega arith
set-small SpecialGraphics = omega arith
set-small Supplemental = omega arith
set-small Latin1 = omega arith

-- a word of a code and a set is the flags with both added
word_of : (r : Rendition) (p : Bool) (s : CharSet) (x : ℕ)
    → packed (record { code = x; set = s; rendition = r; protected = p }) ≡ flag_bits r p + 128 * set_number s + x % 128
unfolding packed
word_of r p s x = omega arith

pub pen-fits : (r : Rendition) (p : Bool) (s : Sets) → PenFits (pen_of r p s)
unfolding pen_of
pen-fits r p s =
    let flags = packed-small (record { code = 0; set = Ascii; rendition = r; protected = p }) in
    let gl = set-small (left_set s NoShift) in
    let gr = set-small (right_set s) in
    let same = known (eqb (space_base r p s) (left_base r p s)) in
    record {
      left = omega arith;
      right = omega arith;
      low = ⊎_elim (λ e. rw e (omega arith)) (λ e. rw e (omega arith)) same;
      alike = ⊎_elim
          (λ e h. ap (λ (x : ℕ). x + 0x20) (eqb-true (space_base r p s) (left_base r p s) e))
          (λ e h. absurd (omega (arith, rw e at h)))
          same;
    }

-- ---- the words of characters

-- 20 is code 20 of the set, or of ASCII in a 94-sign set
space-word : (r : Rendition) (p : Bool) (s : CharSet)
    → cond (has96 s) (flag_bits r p + 128 * set_number s) (flag_bits r p) + 0x20
    ≡ packed (record { code = 0x20; set = shown_set s 0x20; rendition = r; protected = p })
unfolding packed
space-word r p Ascii = omega arith
space-word r p SpecialGraphics = omega arith
space-word r p Supplemental = omega arith
space-word r p Latin1 = omega arith

-- any other byte is a code of the set that it uses
other_word : (c : Core) (b : ℕ)
    → cond (ltb b 0x80) (left_base c.rendition c.protected c.sets + b % 128) (right_base c.rendition c.protected c.sets + b % 128)
    ≡ cell_word c (b % 128) (cond (ltb b 0x80) (left_set c.sets NoShift) (right_set c.sets))
other_word c b =
    ⊎_elim
    (λ e. rw e (plain_word (left_set c.sets NoShift)))
    (λ e. rw e (plain_word (right_set c.sets)))
    (known (ltb b 0x80))
  where
    plain_word : (s : CharSet) → flag_bits c.rendition c.protected + 128 * set_number s + b % 128 ≡ cell_word c (b % 128) s
    plain_word s = omega (arith, word_of c.rendition c.protected s (b % 128))

pub pen-glyph : (c : Core) (b : ℕ) → c.shift ≡ NoShift → pen_word (pen_of c.rendition c.protected c.sets) b ≡ glyph c b
unfolding pen_of
pen-glyph c b u =
    ⊎_elim
    (λ (e : b ≡ 0x20). rw (e, u) (space-word c.rendition c.protected (left_set c.sets NoShift)))
    (λ (ne : b ≡ 0x20 → ⊥). rw (ne_eqb b 0x20 ne, u, and-false) (other_word c b))
    (split-eq b 0x20)

-- ---- how it is made

pub pen-made : (r : Rendition) (p : Bool) (s : Sets) (flags left right space low : ℕ) → flags ≡ flag_bits r p
    → left ≡ flags + 128 * set_number (left_set s NoShift) → right ≡ flags + 128 * set_number (right_set s)
    → space ≡ cond (has96 (left_set s NoShift)) left flags → low ≡ cond (eqb space left) 0x20 0x21
    → ◌≡◌ {A = Pen} (record { left = left; right = right; space = space + 0x20; low = low }) (pen_of r p s)
unfolding pen_of
pen-made r p s flags left right space low ef el er es ew = rw (ew, es, er, el, ef)
