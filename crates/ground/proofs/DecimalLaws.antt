-- Decimals: the digits of n are those of n / 10, then the last, so what holds below 10 and goes from n / 10 to n holds of every number.
use mathlib.Core.Path.{◌≡◌, refl, sym}
use mathlib.Core.List.{List, [], ◌∷◌, ◌++◌}
use mathlib.Core.Logic.{◌↔◌, ⊎_elim}
use Prim.Native.Nat.{ℕ, zero, suc, ◌+◌, ◌-◌, ◌*◌, ◌/◌, ◌%◌, ◌^◌, ◌≤◌, ◌<◌}
use native.Mathlib.Nat.{one-le-pow}
use native.Mathlib.Omega.{arith}
use lib.Dec.{lit<}
use lib.ListN.{length, get_or, length-append, get_or-append}
use lib.Seq.{get_or-append_seam}
use borrow.Author.Tests.{lt-ltb, le-ltb}
use Rattle.ground.proofs.ListLaws.{split-lt}
use Rattle.ground.specs.Decimals.{digits_in, decimal, value_from, value_of}

-- ---- the two cases

digits-small : (k n : ℕ) → n < 10 → digits_in k n ≡ (0x30 + n) ∷ []
unfolding digits_in
digits-small zero n h = refl
digits-small (suc k) n h = rw (lt-ltb n 10 h)

-- a number below 10, or one of two digits at least
module _ (P : ℕ → Type 0) (small : (n : ℕ) → n < 10 → P n) (more : (n : ℕ) → 10 ≤ n → P (n / 10) → P n) where
  up_to : (k n : ℕ) → n ≤ k → P n
  up_to zero n h = small n (omega arith)
  up_to (suc k) n h = ⊎_elim (small n) (λ l. more n l (up_to k (n / 10) (omega arith))) (split-lt n 10)

  pub by-tenths : (n : ℕ) → P n
  by-tenths n = up_to n n (omega arith)

-- places enough give the same digits
digits-enough : (k m n : ℕ) → n ≤ k → n ≤ m → digits_in k n ≡ digits_in m n
unfolding digits_in
digits-enough zero m n a b = sym (digits-small m n (omega arith))
digits-enough (suc k) zero n a b = digits-small (suc k) n (omega arith)
digits-enough (suc k) (suc m) n a b = rw (digits-enough k m (n / 10) (omega arith) (omega arith))

pub decimal-small : (n : ℕ) → n < 10 → decimal n ≡ (0x30 + n) ∷ []
unfolding decimal
decimal-small n h = digits-small n n h

pub decimal-more : (n : ℕ) → 10 ≤ n → decimal n ≡ decimal (n / 10) ++ ((0x30 + n % 10) ∷ [])
unfolding decimal digits_in
decimal-more n h =
    let k : ℕ = n - 1 in
    rw (digits-enough n (suc k) n (omega arith) (omega arith), le-ltb n 10 h, digits-enough k (n / 10) (n / 10) (omega arith) (omega arith))

-- below 100, and below 1000
pub decimal-two : (n : ℕ) → 10 ≤ n → n < 100 → decimal n ≡ (0x30 + n / 10) ∷ (0x30 + n % 10) ∷ []
decimal-two n l h = rw (decimal-more n l, decimal-small (n / 10) (omega arith))

pub decimal-three : (n : ℕ) → 100 ≤ n → n < 1000 → decimal n ≡ (0x30 + n / 100) ∷ (0x30 + n / 10 % 10) ∷ (0x30 + n % 10) ∷ []
decimal-three n l h =
    let tenth : n / 10 / 10 ≡ n / 100 = omega arith in
    rw (decimal-more n (omega arith), decimal-two (n / 10) (omega arith) (omega arith), tenth)

-- ---- the value

value-append : (v : ℕ) (xs : List ℕ) (d : ℕ) → value_from v (xs ++ (d ∷ [])) ≡ 10 * value_from v xs + (d - 0x30)
value-append v [] d = refl
value-append v (x ∷ xs) d = value-append (10 * v + (x - 0x30)) xs d

pub decimal-value : (n : ℕ) → value_of (decimal n) ≡ n
decimal-value =
    by-tenths (λ n. value_of (decimal n) ≡ n)
    (λ n h. rw (decimal-small n h) (omega arith))
    (λ n h e. rw (decimal-more n h, value-append, e) (omega arith))

-- ---- the length

pub small-length : (n : ℕ) → n < 10 → length (decimal n) ≡ 1
small-length n h = rw (decimal-small n h)

pub more-length : (n : ℕ) → 10 ≤ n → length (decimal n) ≡ length (decimal (n / 10)) + 1
more-length n h = rw (decimal-more n h, length-append)

-- there is one
pub some-digit : (n : ℕ) → 1 ≤ length (decimal n)
some-digit = by-tenths (λ n. 1 ≤ length (decimal n)) (λ n h. omega (arith, small-length n h)) (λ n h l. omega (arith, more-length n h))

abbrev LongAs : ℕ → Type 0
LongAs n = (k : ℕ) → (length (decimal n) ≤ suc k) ↔ (n < 10 ^ suc k)

pub decimal-length : (n k : ℕ) → 1 ≤ k → (length (decimal n) ≤ k) ↔ (n < 10 ^ k)
decimal-length n zero l = absurd (omega arith)
decimal-length n (suc k) l = by-tenths LongAs (λ n h k. omega (arith, small-length n h, one-le-pow k 10 (lit< tt))) longer n k
  where
    longer : (n : ℕ) → 10 ≤ n → LongAs (n / 10) → LongAs n
    longer n h f zero = omega (arith, more-length n h, some-digit (n / 10))
    longer n h f (suc k) =
        let m = more-length n h in
        (λ a. let b = (f k).0 (omega arith) in omega arith, λ a. let b = (f k).1 (omega arith) in omega arith)

-- ---- the digits

pub decimal-digits : (n k : ℕ) → k < length (decimal n) → (0x30 ≤ get_or (decimal n) k 0) × (get_or (decimal n) k 0 ≤ 0x39)
decimal-digits =
    by-tenths (λ n. (k : ℕ) → k < length (decimal n) → (0x30 ≤ get_or (decimal n) k 0) × (get_or (decimal n) k 0 ≤ 0x39))
    (λ n h k l. let e : k ≡ 0 = omega (arith, small-length n h) in rw (decimal-small n h, e) (omega arith))
    (λ n h f k l.
    let last : length (decimal (n / 10)) ≤ k → k ≡ length (decimal (n / 10)) = λ b. omega (arith, more-length n h) in
    ⊎_elim
    (λ b. rw (decimal-more n h, get_or-append (decimal (n / 10)) ((0x30 + n % 10) ∷ []) 0 k b) (f k b))
    (λ b. rw (decimal-more n h, last b, get_or-append_seam) (omega arith))
    (split-lt k (length (decimal (n / 10)))))

-- the first digit is no 0, but that of 0
pub decimal-first : (n : ℕ) → 1 ≤ n → 0x31 ≤ get_or (decimal n) 0 0
decimal-first =
    by-tenths (λ n. 1 ≤ n → 0x31 ≤ get_or (decimal n) 0 0)
    (λ n h l. rw (decimal-small n h) (omega arith))
    (λ n h f l. let d = some-digit (n / 10) in rw (decimal-more n h, get_or-append) (f (omega arith)))
