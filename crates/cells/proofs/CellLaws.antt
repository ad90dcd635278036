-- A cell and its word: each field is a digit of the word of its own, so none is lost, and what is left over is zero.
use mathlib.Core.Path.{◌≡◌, refl}
use mathlib.Core.Bool.{Bool, true, false}
use mathlib.Core.List.{[], ◌∷◌}
use mathlib.Core.Logic.{⊎_elim}
use Prim.Native.Nat.{ℕ, zero, suc, ◌+◌, ◌*◌, ◌/◌, ◌%◌, ◌^◌, ◌<◌}
use native.Mathlib.Nat.{div-div-eq-div-mul}
use native.Mathlib.Omega.{arith}
use lib.Arith.{mod-mul}
use lib.Dec.{lit<}
use lib.ListN.{get_or}
use borrow.Author.Tests.{eq-eqb, ne_eqb}
use Rattle.ground.proofs.ListLaws.{split-eq}
use Rattle.ground.proofs.TestLaws.{either}
use Rattle.cells.specs.declared.CharSet.{CharSet}
use Rattle.cells.specs.declared.CharSet.TheVariants.{Ascii, SpecialGraphics, Supplemental, Latin1}
use Rattle.cells.specs.declared.Cell.{Cell}
use Rattle.cells.specs.declared.Setting.{Setting}
use Rattle.cells.specs.declared.Setting.TheVariants.{Same, On, Off, Flipped}
use Rattle.cells.specs.declared.Styling.{Styling}
use Rattle.cells.specs.declared.CellChange.{CellChange}
use Rattle.cells.specs.declared.CellChange.TheVariants.{SelectiveErase, Restyle}
use Rattle.cells.specs.Cells.{set_number, set_of, bit, flag, packed, unpacked, plain_cell, blank, spaced, selectively_erased}
use Rattle.cells.specs.Cells.{setting_number, setting_of, styling_number, styling_of, styled, restyled, changed_by, has_sign, Printable}

-- ---- the digits

pub bit-lt : (b : Bool) → bit b < 2
bit-lt true = lit< tt
bit-lt false = lit< tt

pub bit-flag : (n : ℕ) → bit (flag n) ≡ n % 2
bit-flag n = ⊎_elim (λ e. rw (eq-eqb (n % 2) 1 e) (omega arith)) (λ e. rw (ne_eqb (n % 2) 1 e) (omega arith)) (split-eq (n % 2) 1)

-- a flag before the others is the remainder
pub flag-back : (b : Bool) (n k : ℕ) → n ≡ bit b + 2 * k → flag n ≡ b
flag-back true n k e = eq-eqb (n % 2) 1 (omega arith)
flag-back false n k e = ne_eqb (n % 2) 1 (omega arith)

-- and so is a set's number
set-digit : (s : CharSet) → (set_number s < 4) × (set_of (set_number s) ≡ s)
set-digit Ascii = (omega arith, refl)
set-digit SpecialGraphics = (omega arith, refl)
set-digit Supplemental = (omega arith, refl)
set-digit Latin1 = (omega arith, refl)

set_back : (s : CharSet) (n k : ℕ) → n ≡ set_number s + 4 * k → set_of (n % 4) ≡ s
set_back s n k e = let low : n % 4 ≡ set_number s = omega (arith, (set-digit s).0) in rw low (set-digit s).1

-- the numbers are in the documented order
pub set_at : (n : ℕ) → n < 4 → set_of n ≡ get_or (Ascii ∷ SpecialGraphics ∷ Supplemental ∷ Latin1 ∷ []) n Ascii
set_at zero h = refl
set_at (suc zero) h = refl
set_at (suc (suc zero)) h = refl
set_at (suc (suc (suc zero))) h = refl
set_at (suc (suc (suc (suc n)))) h = absurd (omega arith)

-- ---- every cell

-- none of its numbers reaches into the next one's place
small : (c : Cell) → (set_number c.set < 4) × (bit c.rendition.bold < 2) × (bit c.rendition.underline < 2)
    × (bit c.rendition.blink < 2) × (bit c.rendition.reverse < 2) × (bit c.protected < 2)
small c =
    let r = c.rendition in
    ((set-digit c.set).0, bit-lt r.bold, bit-lt r.underline, bit-lt r.blink, bit-lt r.reverse, bit-lt c.protected)

pub packed-small : (c : Cell) → packed c < 2 ^ 14
unfolding packed
packed-small c = omega (arith, small c)

-- a cell comes back from its word
pub cell-back : (c : Cell) → c.code < 128 → unpacked (packed c) ≡ c
unfolding packed unpacked
cell-back c h =
    let s = small c in
    let w : ℕ = packed c in
    let p : ℕ = bit c.protected in
    let r : ℕ = bit c.rendition.reverse in
    let k : ℕ = bit c.rendition.blink in
    let u : ℕ = bit c.rendition.underline in
    let code : w % 128 ≡ c.code = omega arith in
    let set = set_back c.set (w / 128) (bit c.rendition.bold + 2 * u + 4 * k + 8 * r + 16 * p) (omega arith) in
    let bold = flag-back c.rendition.bold (w / 512) (u + 2 * k + 4 * r + 8 * p) (omega arith) in
    let underline = flag-back c.rendition.underline (w / 1024) (k + 2 * r + 4 * p) (omega arith) in
    let blink = flag-back c.rendition.blink (w / 2048) (r + 2 * p) (omega arith) in
    let reverse = flag-back c.rendition.reverse (w / 4096) p (omega arith) in
    let protected = flag-back c.protected (w / 8192) 0 (omega arith) in
    rw (code, set, bold, underline, blink, reverse, protected)

-- so two cells with one word are one cell
pub same_word : (c d : Cell) → c.code < 128 → d.code < 128 → packed c ≡ packed d → c ≡ d
same_word c d h k e = cc (cell-back c h, cell-back d k)

pub blank-packed : packed (plain_cell 0x20) ≡ blank
unfolding packed
blank-packed = refl

-- ---- every word

-- a digit of base 2m is one of base m and a bit
digit : (w c m : ℕ) → 0 < m → w / c % (m * 2) ≡ w / (c * 2) % m * 2 + w / c % 2
digit w c m h = rw (mod-mul (w / c) {m = m} {c = 2} h (lit< tt), div-div-eq-div-mul w c 2)

pub spaced-is : (w : ℕ) → spaced w ≡ 32 + 512 * (w / 512 % 32)
unfolding spaced packed unpacked
spaced-is w =
    simp bit-flag (omega (arith, digit w 512 16 (lit< tt), digit w 1024 8 (lit< tt), digit w 2048 4 (lit< tt), digit w 4096 2 (lit< tt)))

-- what selective erase leaves
pub erased-protected : (w : ℕ) → (unpacked w).protected ≡ true → selectively_erased w ≡ w
unfolding selectively_erased
erased-protected w e = rw e

pub erased-other : (w : ℕ) → (unpacked w).protected ≡ false → selectively_erased w ≡ spaced w
unfolding selectively_erased
erased-other w e = rw e

pub spaced-back : (w : ℕ)
    → unpacked (spaced w) ≡ record { code = 0x20; set = Ascii; rendition = (unpacked w).rendition; protected = (unpacked w).protected }
unfolding spaced
spaced-back w = cell-back _ (omega arith)

pub spaced-small : (w : ℕ) → spaced w < 2 ^ 14
unfolding spaced
spaced-small w = packed-small _

-- a styling comes back from its number
setting-digit : (x : Setting) → (setting_number x < 4) × (setting_of (setting_number x) ≡ x)
setting-digit Same = (omega arith, refl)
setting-digit On = (omega arith, refl)
setting-digit Off = (omega arith, refl)
setting-digit Flipped = (omega arith, refl)

setting-back : (x : Setting) (n : ℕ) → n ≡ setting_number x → setting_of n ≡ x
setting-back x n e = rw e (setting-digit x).1

pub styling-back : (s : Styling) → styling_of (styling_number s) ≡ s
unfolding styling_of styling_number
styling-back s =
    let b = (setting-digit s.bold).0 in
    let u = (setting-digit s.underline).0 in
    let k = (setting-digit s.blink).0 in
    let r = (setting-digit s.reverse).0 in
    let n : ℕ = styling_number s in
    let bold = setting-back s.bold (n % 4) (omega arith) in
    let underline = setting-back s.underline (n / 4 % 4) (omega arith) in
    let blink = setting-back s.blink (n / 16 % 4) (omega arith) in
    let reverse = setting-back s.reverse (n / 64) (omega arith) in
    rw (bold, underline, blink, reverse)

-- what other attributes leave
pub restyled-back : (s : Styling) (w : ℕ) → unpacked (restyled s w)
    ≡ record { code = (unpacked w).code; set = (unpacked w).set; rendition = styled s (unpacked w).rendition; protected = (unpacked w).protected }
unfolding restyled unpacked
restyled-back s w = cell-back _ (omega arith)

pub restyled-small : (s : Styling) (w : ℕ) → restyled s w < 2 ^ 14
unfolding restyled
restyled-small s w = packed-small _

-- ---- what bytes put into cells

pub packed-printable : (c : Cell) → c.code < 128 → has_sign c.set c.code ≡ true → Printable (packed c)
packed-printable c h e = record { code = rw (cell-back c h) e; unused = packed-small c }

pub blank-printable : Printable blank
unfolding unpacked
blank-printable = record { code = refl; unused = omega arith }

pub erased-printable : (w : ℕ) → Printable w → Printable (selectively_erased w)
unfolding selectively_erased spaced
erased-printable w h = either Printable (unpacked w).protected (λ e. h) (λ e. packed-printable _ (omega arith) refl)

pub restyled-printable : (s : Styling) (w : ℕ) → Printable w → Printable (restyled s w)
unfolding restyled unpacked
restyled-printable s w h = packed-printable _ (omega arith) h.code

pub changed-printable : (m : CellChange) (w : ℕ) → Printable w → Printable (changed_by m w)
changed-printable SelectiveErase w h = erased-printable w h
changed-printable (Restyle n) w h = restyled-printable (styling_of n) w h
