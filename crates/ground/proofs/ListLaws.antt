-- Laws of numbers and lists: two numbers compared, what a paste puts and what it leaves.
use mathlib.Core.Path.{◌≡◌, refl, sym, ◌∙◌}
use mathlib.Core.Bool.{Bool, true, false}
use mathlib.Core.List.{List, ◌++◌, append_assoc, append-nil}
use mathlib.Core.Logic.{◌⊎◌, inl, inr, ⊎_elim, ⊎_map}
use Prim.Native.Nat.{ℕ, ◌+◌, ◌-◌, ◌≤◌, ◌<◌}
use native.Mathlib.Nat.{zero-add, le_of_eq}
use native.Mathlib.Omega.{arith}
use lib.Dec.{eqb, ltb}
use lib.ListN.{length, get_or, take, drop, replicate, length-take, length-replicate, get_or-append}
use lib.Seq.{paste, drop-paste, length-paste, get_or-drop, get_or-take, get_or-append-add, take_all, drop-length, ext_get_or, length-take-le}
use borrow.Author.Tests.{ltb-true, ltb-false, eqb-true, eqb-false}

-- ---- a test holds or fails, a number is below another or not, and equal to it or not

pub known : (t : Bool) → (t ≡ true) ⊎ (t ≡ false)
known true = inl refl
known false = inr refl

pub split-lt : (a b : ℕ) → (a < b) ⊎ (b ≤ a)
split-lt a b = ⊎_map (ltb-true a b) (ltb-false a b) (known (ltb a b))

pub split-eq : (a b : ℕ) → (a ≡ b) ⊎ (a ≡ b → ⊥)
split-eq a b = ⊎_map (eqb-true a b) (eqb-false a b) (known (eqb a b))

-- what holds of the n places from `at` on, and of those outside, holds of every place
pub by_place : (P : ℕ → Type 0) (at n : ℕ) → ((j : ℕ) → j < n → P (at + j)) → ((i : ℕ) → (i < at) ⊎ (at + n ≤ i) → P i) → (i : ℕ) → P i
by_place P at n inside outside i =
    let within : at ≤ i → i < at + n → P i = λ b c. let e : at + (i - at) ≡ i = omega arith in rw e at (inside (i - at) (omega arith)) in
    ⊎_elim (λ b. outside i (inl b)) (λ b. ⊎_elim (within b) (λ c. outside i (inr c)) (split-lt i (at + n))) (split-lt i at)

-- ---- a paste, place by place

module _ (d : List ℕ) (at : ℕ) (s : List ℕ) (n : ℕ) (hd : at + n ≤ length d) (hs : n ≤ length s) where
  -- a place outside holds what it held
  pub paste-outside : (i : ℕ) → (i < at) ⊎ (at + n ≤ i) → get_or (paste d at s n) i 0 ≡ get_or d i 0
  paste-outside i =
      let k : ℕ = i - (at + n) in
      ⊎_elim
      (λ (h : i < at). let l : i < length (take at d) = simp length-take (omega arith) in rw (append_assoc, get_or-append, get_or-take))
      (λ (h : at + n ≤ i). let e : at + n + k ≡ i = omega arith in
      cc (get_or-drop (at + n) (paste d at s n) k 0, drop-paste d at s n (omega arith) hs, get_or-drop (at + n) d k 0))

  -- and a place inside what was pasted there
  pub paste-inside : (j : ℕ) → j < n → get_or (paste d at s n) (at + j) 0 ≡ get_or s j 0
  paste-inside j h =
      let l : length (take at d) ≡ at = length-take-le at d (omega arith) in
      let m : j < length (take n s) = simp length-take (omega arith) in
      let r = get_or-append-add (take at d) (take n s ++ drop (at + n) d) j 0 in
      rw append_assoc (rw l at r ∙ rw (get_or-append, get_or-take))

  -- so what holds those words at those places is the paste
  pub paste-is : (x : List ℕ) → length x ≡ length d → ((j : ℕ) → j < n → get_or x (at + j) 0 ≡ get_or s j 0)
      → ((i : ℕ) → i < length x → (i < at) ⊎ (at + n ≤ i) → get_or x i 0 ≡ get_or d i 0) → x ≡ paste d at s n
  paste-is x long inside outside =
      ext_get_or 0 x (paste d at s n) (long ∙ sym (length-paste d at s n hd hs))
      (by_place (λ i. i < length x → get_or x i 0 ≡ get_or (paste d at s n) i 0) at n
      (λ j b l. inside j b ∙ sym (paste-inside j b)) (λ i o l. outside i l o ∙ sym (paste-outside i o)))

-- a list that is replaced whole
pub paste-whole : (d : List ℕ) (w : ℕ) → paste d 0 (replicate (length d) w) (length d) ≡ replicate (length d) w
paste-whole d w = rw (zero-add, drop-length, append-nil) (take_all _ _ (le_of_eq (length-replicate (length d) w)))
