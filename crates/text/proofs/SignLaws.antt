-- What a printable word shows: its code has a sign in its set, so the case for control codes is never taken.
use mathlib.Core.Path.{◌≡◌, refl, sym, ap, ◌∙◌}
use mathlib.Core.Bool.{true, false, not, ◌&&◌, false≢true}
use mathlib.Core.Logic.{◌⊎◌, inl, inr, ⊎_elim}
use Prim.Native.Nat.{ℕ, ◌-◌, ◌≤◌, ◌<◌}
use native.Mathlib.Omega.{arith}
use lib.Dec.{eqb, leb}
use lib.ListN.{get_or}
use borrow.Author.Tests.{eq-eqb, ne_eqb, lt-ltb, le-ltb, leb-true}
use Rattle.cells.specs.declared.CharSet.{CharSet}
use Rattle.cells.specs.declared.CharSet.TheVariants.{Ascii, SpecialGraphics, Supplemental, Latin1}
use Rattle.cells.specs.Cells.{unpacked, has_sign, Printable}
use Rattle.text.specs.Text.{line_drawing, unshown, shown_code, graphic_sign, sign_in, sign}
use Rattle.ground.proofs.TestLaws.{and_left, and_right, or_cases}
use Rattle.ground.proofs.ListLaws.{split-lt, split-eq}
use Rattle.text.proofs.LineCount.{at}

-- ---- codes

-- a code 20 to 7E is shown as itself
own_code : (x : ℕ) → 0x20 ≤ x → x ≤ 0x7E → shown_code x ≡ x
own_code x l h = rw (le-ltb x 0x20 l, ne_eqb x 0x7F (omega arith))

range : (low x high : ℕ) → (leb low x && leb x high) ≡ true → (low ≤ x) × (x ≤ high)
range low x high e = (leb-true low x (and_left (leb low x) (leb x high) e), leb-true x high (and_right (leb low x) (leb x high) e))

-- no line-drawing sign is "?"
table-sign : (n : ℕ) → n < 32 → get_or line_drawing n 0 ≡ unshown → ⊥
table-sign n h e = absurd (false≢true (ap (λ (x : ℕ). not (eqb x unshown)) (sym e) ∙ at (λ x. not (eqb x unshown)) line_drawing refl n h))

ascii-sign : (x : ℕ) → has_sign Ascii x ≡ true → eqb x 0x1A ≡ false → shown_code x ≡ x
ascii-sign x e n =
    or_cases (leb 0x20 x && leb x 0x7E) (eqb x 0x1A) e
    (λ h. let r = range 0x20 x 0x7E h in own_code x r.0 r.1) (λ h. absurd (false≢true (sym n ∙ h)))

graphic-sign : (x : ℕ) → has_sign SpecialGraphics x ≡ true → x < 0x5F → graphic_sign x ≡ x
graphic-sign x e h = let r = range 0x21 x 0x7E e in rw (lt-ltb x 0x5F h) (own_code x (omega arith) r.1)

-- "?" is the sign of code 3F, or of Supplemental
in-set-unshown : (s : CharSet) (x : ℕ) → has_sign s x ≡ true → eqb x 0x1A ≡ false → sign_in s x ≡ unshown → (s ≡ Supplemental) ⊎ (x ≡ 0x3F)
in-set-unshown Ascii x e n u = inr (sym (ascii-sign x e n) ∙ u)
in-set-unshown SpecialGraphics x e n u =
    let r = range 0x21 x 0x7E e in
    ⊎_elim
    (λ l. inr (sym (graphic-sign x e l) ∙ u))
    (λ l. absurd (table-sign (x - 0x5F) (omega arith) (rw (le-ltb x 0x5F l, ne_eqb x 0x7F (omega arith)) at u)))
    (split-lt x 0x5F)
in-set-unshown Supplemental x e n u = inl refl
in-set-unshown Latin1 x e n u = absurd (omega arith)

-- ---- words

module _ (w : ℕ) (p : Printable w) where
  pub sign-substitute : (unpacked w).code ≡ 0x1A → sign w ≡ 0x2426
  unfolding sign
  sign-substitute e = rw (eq-eqb (unpacked w).code 0x1A e)

  -- the sign of its set
  other : (eqb (unpacked w).code 0x1A ≡ false) → sign w ≡ sign_in (unpacked w).set (unpacked w).code
  unfolding sign
  other e = rw e

  pub sign-ascii : (unpacked w).set ≡ Ascii → ((unpacked w).code ≡ 0x1A → ⊥) → sign w ≡ (unpacked w).code
  sign-ascii s n =
      let e = ne_eqb (unpacked w).code 0x1A n in
      other e ∙ rw s (ascii-sign (unpacked w).code (rw s at p.code) e)

  pub sign-graphic : (unpacked w).set ≡ SpecialGraphics → (unpacked w).code < 0x5F → sign w ≡ (unpacked w).code
  sign-graphic s h =
      let g : has_sign SpecialGraphics (unpacked w).code ≡ true = rw s at p.code in
      let r = range 0x21 (unpacked w).code 0x7E g in
      other (ne_eqb (unpacked w).code 0x1A (omega arith)) ∙ rw s (graphic-sign (unpacked w).code g h)

  pub sign-unshown : sign w ≡ unshown → ((unpacked w).set ≡ Supplemental) ⊎ ((unpacked w).code ≡ 0x3F)
  sign-unshown u =
      ⊎_elim
      (λ e. absurd (let a = sym (sign-substitute e) ∙ u in omega arith))
      (λ n. let e = ne_eqb (unpacked w).code 0x1A n in in-set-unshown (unpacked w).set (unpacked w).code p.code e (sym (other e) ∙ u))
      (split-eq (unpacked w).code 0x1A)
