-- A number is in a range, or before or behind it, and the test says which.
use mathlib.Core.Path.{◌≡◌, sym, ◌∙◌}
use mathlib.Core.Bool.{true, false, and-false, true≢false}
use mathlib.Core.Logic.{◌⊎◌, inl, inr, ⊎_elim}
use Prim.Native.Nat.{ℕ, ◌≤◌, ◌<◌}
use lib.Dec.{leb}
use borrow.Author.Tests.{le-leb, lt-leb, lt-ltb, le-ltb}
use Rattle.page.specs.Edits.{in_range}
use Rattle.ground.proofs.ListLaws.{split-lt}

pub split-range : (a e j : ℕ) → ((a ≤ j) × (j < e)) ⊎ ((j < a) ⊎ (e ≤ j))
split-range a e j = ⊎_elim (λ b. inr (inl b)) (λ b. ⊎_elim (λ c. inl (b, c)) (λ c. inr (inr c)) (split-lt j e)) (split-lt j a)

pub in-range : (a e j : ℕ) → a ≤ j → j < e → in_range a e j ≡ true
in-range a e j h l = rw (le-leb a j h) (lt-ltb j e l)

pub off-range : (a e j : ℕ) → (j < a) ⊎ (e ≤ j) → in_range a e j ≡ false
off-range a e j = ⊎_elim (λ (b : j < a). rw (lt-leb a j b)) (λ (b : e ≤ j). rw (le-ltb j e b) (and-false (leb a j)))

pub of_range : (a e j : ℕ) → in_range a e j ≡ true → (a ≤ j) × (j < e)
of_range a e j h = ⊎_elim (λ i. i) (λ o. absurd (true≢false (sym h ∙ off-range a e j o))) (split-range a e j)

pub not-in-range : (a e j : ℕ) → in_range a e j ≡ false → (j < a) ⊎ (e ≤ j)
not-in-range a e j h = ⊎_elim (λ i. absurd (true≢false (sym (in-range a e j i.0 i.1) ∙ h))) (λ o. o) (split-range a e j)

pub no-range : (a j : ℕ) → in_range a a j ≡ false
no-range a j = off-range a a j (split-lt j a)

-- two ranges that have j or not alike
pub alike : (a e a' e' j : ℕ) → ((j < a) ⊎ (e ≤ j) → (j < a') ⊎ (e' ≤ j)) → (a ≤ j → j < e → (a' ≤ j) × (j < e')) → in_range a' e' j ≡ in_range a e j
alike a e a' e' j off on =
    ⊎_elim
    (λ (i : (a ≤ j) × (j < e)). in-range a' e' j (on i.0 i.1).0 (on i.0 i.1).1 ∙ sym (in-range a e j i.0 i.1))
    (λ (o : (j < a) ⊎ (e ≤ j)). off-range a' e' j (off o) ∙ sym (off-range a e j o))
    (split-range a e j)
