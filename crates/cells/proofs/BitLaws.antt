-- Laws of sets of rows and their bits.
use mathlib.Core.Path.{◌≡◌, refl, sym, ap, ◌∙◌}
use mathlib.Core.Bool.{Bool, true, false, ◌||◌, or_assoc, or-false}
use mathlib.Core.Logic.{⊎_elim}
use Prim.Native.Nat.{ℕ, zero, suc, ◌+◌, ◌-◌, ◌*◌, ◌/◌, ◌%◌, ◌^◌, ◌<◌}
use native.Mathlib.Nat.{pow-suc, mul_comm, zero-mul, mul_assoc, add_comm, add-mul-div_right, mod-eq_of_lt, mod-one}
use native.Mathlib.Omega.{arith}
use lib.Dec.{lit<}
use lib.Bits.{bit_or, or_block, or_zero_l, block_odd}
use lib.Count.{ones, ones_cat}
use lib.Arith.{digits_lt, digits_div, mod-mul}
use lib.Pow.{pow_pos, pow-add}
use Rattle.cells.specs.Cells.{bit}
use Rattle.cells.specs.Sets.{bits_of, size_of, has_bit, added}
use Rattle.cells.proofs.CellLaws.{bit-lt, bit-flag, flag-back}
use Rattle.ground.proofs.ListLaws.{known, split-eq}

pub bits-lt : (n : ℕ) (s : ℕ → Bool) → bits_of n s < 2 ^ n
unfolding bits_of
bits-lt zero s = lit< tt
bits-lt (suc n) s = rw (pow-suc 2 n, mul_comm (2 ^ n) 2) (digits_lt (bit-lt (s n)) (bits-lt n s))

or-bit : (a b : Bool) → bit_or (bit a) (bit b) ≡ bit (a || b)
or-bit true true = refl
or-bit true false = refl
or-bit false b = or_zero_l (bit b)

-- the bits of two sets together
pub bits-or : (n : ℕ) (s t : ℕ → Bool) → bit_or (bits_of n s) (bits_of n t) ≡ bits_of n (λ k. s k || t k)
unfolding bits_of
bits-or zero s t = refl
bits-or (suc n) s t = rw (or_block n _ _ _ _ (bits-lt n s) (bits-lt n t), or-bit, bits-or n s t)

ones_bit : (b : Bool) → ones (bit b) ≡ bit b
unfolding ones
ones_bit true = refl
ones_bit false = refl

-- the count of ones is the set's size
pub bits-ones : (n : ℕ) (s : ℕ → Bool) → ones (bits_of n s) ≡ size_of n s
unfolding bits_of size_of ones
bits-ones zero s = refl
bits-ones (suc n) s = rw (ones_cat n _ _ (bits-lt n s), ones_bit, bits-ones n s)

pub bits-ext : (n : ℕ) (s t : ℕ → Bool) → ((k : ℕ) → k < n → s k ≡ t k) → bits_of n s ≡ bits_of n t
unfolding bits_of
bits-ext zero s t h = refl
bits-ext (suc n) s t h = rw (h n (omega arith), bits-ext n s t (λ k l. h k (omega arith)))

pub size-ext : (n : ℕ) (s t : ℕ → Bool) → ((k : ℕ) → k < n → s k ≡ t k) → size_of n s ≡ size_of n t
unfolding size_of
size-ext zero s t h = refl
size-ext (suc n) s t h = rw (h n (omega arith), size-ext n s t (λ k l. h k (omega arith)))

pub bits_none : (n : ℕ) → bits_of n (λ k. false) ≡ 0
unfolding bits_of
bits_none zero = refl
bits_none (suc n) = rw (bits_none n, zero-mul)

-- ---- one row

-- the bits of a set that has no row but k
pub bits-one : (n k : ℕ) (s : ℕ → Bool) → k < n → ((j : ℕ) → (j ≡ k → ⊥) → s j ≡ false) → bits_of n s ≡ bit (s k) * 2 ^ k
unfolding bits_of
bits-one zero k s l others = absurd (omega arith)
bits-one (suc n) k s l others =
    ⊎_elim (λ (e : n ≡ k). rw (bits-ext n s (λ j. false) (λ j h. others j (omega arith)), bits_none, e) (omega arith))
    (λ (ne : n ≡ k → ⊥). rw (others n ne, bits-one n k s (omega arith) others) (omega arith)) (split-eq n k)

-- ---- the row that a bit is

-- digits above do not matter to the k-th
above : (b n k r : ℕ) → k < n → (b * 2 ^ n + r) / 2 ^ k % 2 ≡ r / 2 ^ k % 2
above b n k r l =
    let j : ℕ = n - suc k in
    let q : n ≡ suc j + k = omega arith in
    rw (q, pow-add 2 (suc j) k, ← mul_assoc b (2 ^ suc j) (2 ^ k), add_comm _ r, add-mul-div_right r (b * 2 ^ suc j) (pow_pos k), add_comm (r / 2 ^ k))
    (block_odd b j (r / 2 ^ k))

pub bits_at : (n : ℕ) (s : ℕ → Bool) (k : ℕ) → k < n → has_bit (bits_of n s) k ≡ s k
unfolding bits_of
bits_at zero s k l = absurd (omega arith)
bits_at (suc n) s k l =
    ⊎_elim (λ (e : k ≡ n). rw (e, digits_div (bit (s n)) (bits-lt n s)) (flag-back (s n) (bit (s n)) 0 (omega arith)))
    (λ (ne : k ≡ n → ⊥). rw (above (bit (s n)) n k (bits_of n s) (omega arith)) (bits_at n s k (omega arith))) (split-eq k n)

-- ---- a number is its bits

-- its lowest n bits are those of what is left of it
pub bits-mod : (n m : ℕ) → bits_of n (has_bit m) ≡ m % 2 ^ n
unfolding bits_of
bits-mod zero m = sym (mod-one m)
bits-mod (suc n) m = rw (bit-flag, bits-mod n m, pow-suc 2 n, mul_comm (2 ^ n) 2, mod-mul m {m = 2} {c = 2 ^ n} (lit< tt) (pow_pos n))

pub bits-own : (n m : ℕ) → m < 2 ^ n → bits_of n (has_bit m) ≡ m
bits-own n m l = bits-mod n m ∙ mod-eq_of_lt l

-- ---- `|` of three

bits-assoc : (n : ℕ) (s t u : ℕ → Bool) → bit_or (bit_or (bits_of n s) (bits_of n t)) (bits_of n u) ≡ bit_or (bits_of n s) (bit_or (bits_of n t) (bits_of n u))
bits-assoc n s t u =
    rw (bits-or n s t, bits-or n t u, bits-or n (λ k. s k || t k) u, bits-or n s (λ k. t k || u k)) (bits-ext n _ _ (λ k b. or_assoc (s k) (t k) (u k)))

-- a number has no more bits than it counts
below-pow : (n : ℕ) → n < 2 ^ n
below-pow zero = lit< tt
below-pow (suc n) = rw (pow-suc 2 n) (omega (arith, below-pow n))

pub bit-or-assoc : (a b c : ℕ) → bit_or (bit_or a b) c ≡ bit_or a (bit_or b c)
bit-or-assoc a b c =
    let n : ℕ = a + b + c in
    let l : a + b + c < 2 ^ (a + b + c) = below-pow n in
    rw (bits-own n a (omega arith), bits-own n b (omega arith), bits-own n c (omega arith)) at (bits-assoc n (has_bit a) (has_bit b) (has_bit c))

-- ---- rows that are added

-- rows that are all known add nothing
pub or-within : (n m : ℕ) (s : ℕ → Bool) → m < 2 ^ n → ((k : ℕ) → k < n → s k ≡ true → has_bit m k ≡ true) → bit_or m (bits_of n s) ≡ m
or-within n m s l h =
    ap (λ (x : ℕ). bit_or x (bits_of n s)) (sym (bits-own n m l)) ∙ bits-or n (has_bit m) s
    ∙ bits-ext n (λ k. has_bit m k || s k) (has_bit m) (λ k b. ⊎_elim (λ e. rw (h k b e)) (λ e. rw e (or-false (has_bit m k))) (known (s k)))
    ∙ bits-own n m l

-- what `|` gives is what is added
pub or-added : (n m : ℕ) (s : ℕ → Bool) → m < 2 ^ n → bit_or m (bits_of n s) ≡ added n m s
unfolding added
or-added n m s l = rw (← bits-or n (has_bit m) s, bits-own n m l)

pub added-lt : (n m : ℕ) (s : ℕ → Bool) → added n m s < 2 ^ n
unfolding added
added-lt n m s = bits-lt n (λ k. has_bit m k || s k)

-- adding to the bits of a set
pub added-bits : (n : ℕ) (s t : ℕ → Bool) → added n (bits_of n s) t ≡ bits_of n (λ k. s k || t k)
unfolding added
added-bits n s t = bits-ext n (λ k. has_bit (bits_of n s) k || t k) (λ k. s k || t k) (λ k l. rw (bits_at n s k l))

pub ones-size : (n m : ℕ) → m < 2 ^ n → ones m ≡ size_of n (has_bit m)
ones-size n m l = rw (← bits-ones n (has_bit m), bits-own n m l)
