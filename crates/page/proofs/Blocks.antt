-- Loops over a block of rows, upward and downward: each turn makes one more row of the block anew.
use mathlib.Core.Path.{◌≡◌, refl, sym, ap, ap₂, ◌∙◌}
use mathlib.Core.Bool.{Bool, true, false, cond}
use mathlib.Core.List.{List}
use mathlib.Core.Logic.{◌⊎◌, inl, inr, ⊎_elim}
use Prim.Native.Nat.{ℕ, ◌+◌, ◌-◌, ◌≤◌, ◌<◌}
use native.Mathlib.Omega.{arith}
use lib.Dec.{eqb}
use lib.Bits.{bit_or}
use lib.ListN.{take, drop, replicate, length-take, length-drop, length-replicate, get_or-replicate}
use lib.Seq.{paste, get_or-take, get_or-drop, ext_get_or}
use borrow.Author.Tests.{eq-eqb, ne_eqb, eqb-true}
use Rattle.cells.specs.Rows.{row}
use Rattle.page.specs.declared.Edit.TheVariants.{CopyRectangle}
use Rattle.page.specs.Edits.{blank_row, overlaid, overlaid_from, in_range}
use Rattle.page.specs.Writes.{Redone, Edited}
use Rattle.ground.proofs.ListLaws.{split-eq}
use Rattle.cells.proofs.Differing.{paste-ext}
use Rattle.ground.proofs.TestLaws.{either}
use Rattle.page.proofs.Ranges.{in-range, off-range, of_range, not-in-range, no-range, alike}
use Rattle.page.proofs.Redoing.{redone-none, redone-old, redone-as, redone-join}

-- ---- a loop over a block

pub block_none : (p : List ℕ) (k : ℕ) (g : ℕ → List ℕ) → Redone p p (in_range k k) g 0
block_none p k g = redone-none p (in_range k k) g (no-range k)

-- each row of it is to be what it is
pub block_same : (p : List ℕ) (a e : ℕ) (g : ℕ → List ℕ) → ((j : ℕ) → g j ≡ row p j) → Redone p p (in_range a e) g 0
block_same p a e g same =
    redone-as (block_none p a g) (in_range a e) g
    (λ j. rw (no-range a j) (either (λ x. row p j ≡ x) (in_range a e j) (λ _. sym (same j)) (λ _. refl)))

module _ {p q r : List ℕ} {a e k : ℕ} {g f : ℕ → List ℕ} {bits bits' : ℕ} (R : Redone p q (in_range a e) g bits) (S : Redone q r (λ j. eqb j k) f bits')
    (same : f k ≡ g k) where
  next : (a' e' : ℕ) → (k < a) ⊎ (e ≤ k) → (a' ≤ k) × (k < e') → ((j : ℕ) → (j ≡ k → ⊥) → in_range a' e' j ≡ in_range a e j) → Redone p r (in_range a' e') g
      (bit_or bits bits')
  next a' e' off on others =
      redone-join R S (λ j t. rw (eqb-true j k t) (off-range a e k off)) (in_range a' e') g
      (λ j. ⊎_elim
      (λ (i : j ≡ k). rw (eq-eqb j k i, i, in-range a' e' k on.0 on.1) same)
      (λ (ne : j ≡ k → ⊥). rw (ne_eqb j k ne, others j ne))
      (split-eq j k))

  -- the row behind the block, and the one before it
  pub block_up : k ≡ e → a ≤ e → Redone p r (in_range a (k + 1)) g (bit_or bits bits')
  block_up i h =
      next a (k + 1) (inr (omega arith)) (omega arith, omega arith)
      (λ j ne. alike a e a (k + 1) j (⊎_elim (λ (b : j < a). inl b) (λ (b : e ≤ j). inr (omega arith))) (λ b c. (b, omega arith)))

  pub block-down : a ≡ k + 1 → a ≤ e → Redone p r (in_range k e) g (bit_or bits bits')
  block-down i h =
      next k e (inl (omega arith)) (omega arith, omega arith)
      (λ j ne. alike a e k e j (⊎_elim (λ (b : j < a). inl (omega arith)) (λ (b : e ≤ j). inr b)) (λ b c. (omega arith, c)))

-- after the last turn
pub block-all : {p q : List ℕ} {a e a' e' : ℕ} {g : ℕ → List ℕ} {bits : ℕ} → Redone p q (in_range a e) g bits → a ≡ a' → e ≡ e'
    → Redone p q (in_range a' e') g bits
block-all {p} {q} {a} {e} {a'} {e'} {g} R ea ee = redone-as R (in_range a' e') g (λ j. ap₂ (λ (x y : ℕ). cond (in_range x y j) (g j) (row p j)) ea ee)

-- a row outside the block is what it was
pub block-old : {p q : List ℕ} {a e : ℕ} {g : ℕ → List ℕ} {bits : ℕ} → Redone p q (in_range a e) g bits → (j : ℕ) → (j < a) ⊎ (e ≤ j) → row q j ≡ row p j
block-old {p} {q} {a} {e} R j o = redone-old R j (off-range a e j o)

-- an edit that makes each row of a block anew
pub block-edited : {p q : List ℕ} {a e : ℕ} {g : ℕ → List ℕ} {bits : ℕ} → Redone p q (in_range a e) g bits → (h : ℕ → List ℕ)
    → ((j : ℕ) → a ≤ j → j < e → g j ≡ h j) → Redone p q (λ j. true) (λ j. cond (in_range a e j) (h j) (row p j)) bits
block-edited {p} {q} {a} {e} {g} R h same =
    redone-as R (λ j. true) (λ j. cond (in_range a e j) (h j) (row p j))
    (λ j. either (λ x. x ≡ cond (in_range a e j) (h j) (row p j)) (in_range a e j)
    (λ i. let b = of_range a e j i in rw i (same j b.0 b.1))
    (λ o. rw o))

-- rows that are copied: each takes the one as far from the source's first as it is from its own block's
pub block-copied : {p q : List ℕ} {t e bits : ℕ} (a z r c : ℕ) (from : ℕ → ℕ) → ((j : ℕ) → t ≤ j → j < e → from j ≡ j - t + r)
    → Redone p q (in_range t e) (λ j. overlaid_from (row p j) a z (row p (from j)) c) bits → Edited (CopyRectangle t e a z r c) p q bits
block-copied {p} a z r c from is R = block-edited R _ (λ j l h. ap (λ (i : ℕ). overlaid_from (row p j) a z (row p i) c) (is j l h))

-- ---- rows that are filled

-- columns a to z filled are those of a row of the word
pub filled_row : (x : List ℕ) (a z w : ℕ) → z ≤ 80 → paste x a (replicate (z - a) w) (z - a) ≡ overlaid x a z (replicate 80 w)
filled_row x a z w h =
    paste-ext x a (replicate (z - a) w) (drop a (replicate 80 w)) (z - a)
    (ext_get_or 0 (take (z - a) (replicate (z - a) w)) (take (z - a) (drop a (replicate 80 w))) (simp (length-take, length-drop, length-replicate) (omega arith))
    (λ i l.
    let j = simp (length-take, length-replicate) at l in
    get_or-take (z - a) (replicate (z - a) w) i 0 (omega arith) ∙ get_or-replicate (z - a) i w 0 (omega arith)
    ∙ sym (get_or-take (z - a) (drop a (replicate 80 w)) i 0 (omega arith) ∙ get_or-drop a (replicate 80 w) i 0 ∙ get_or-replicate 80 (a + i) w 0 (omega arith))))

-- ---- a scroll: rows of a block that take another row, and then those that blanks enter

module _ (x z : ℕ) (from : ℕ → ℕ) {p q r : List ℕ} {a e a' e' : ℕ} {bits bits' : ℕ}
    (R : Redone p q (in_range a e) (λ j. overlaid (row p j) x z (row p (from j))) bits)
    (S : Redone q r (in_range a' e') (λ j. overlaid (row q j) x z blank_row) bits') where
  pub scrolled : (t d : ℕ) (test : ℕ → Bool) → ((j : ℕ) → a ≤ j → j < e → (t ≤ j) × (j < d) × (test j ≡ true))
      → ((j : ℕ) → a' ≤ j → j < e' → (t ≤ j) × (j < d) × (test j ≡ false) × ((j < a) ⊎ (e ≤ j)))
      → ((j : ℕ) → (j < a) ⊎ (e ≤ j) → (j < a') ⊎ (e' ≤ j) → (j < t) ⊎ (d ≤ j))
      → Redone p r (λ j. true) (λ j. cond (in_range t d j) (overlaid (row p j) x z (cond (test j) (row p (from j)) blank_row)) (row p j)) (bit_or bits bits')
  scrolled t d test moved entered rest = redone-join R S apart (λ j. true) _ each
    where
      apart : (j : ℕ) → in_range a' e' j ≡ true → in_range a e j ≡ false
      apart j i = let b = of_range a' e' j i in off-range a e j (entered j b.0 b.1).3

      after : ℕ → List ℕ
      after j = cond (in_range t d j) (overlaid (row p j) x z (cond (test j) (row p (from j)) blank_row)) (row p j)

      each : (j : ℕ) → cond (in_range a' e' j) (overlaid (row q j) x z blank_row) (cond (in_range a e j) (overlaid (row p j) x z (row p (from j))) (row p j))
          ≡ after j
      each j =
          either (λ y. y ≡ after j) (in_range a' e' j)
          (λ i.
          let m = of_range a' e' j i in
          let b = entered j m.0 m.1 in
          rw (in-range t d j b.0 b.1, b.2, block-old R j b.3))
          (λ o'. either (λ y. y ≡ after j) (in_range a e j)
          (λ i. let m = of_range a e j i in let b = moved j m.0 m.1 in rw (in-range t d j b.0 b.1, b.2))
          (λ o. rw (off-range t d j (rest j (not-in-range a e j o) (not-in-range a' e' j o')))))
