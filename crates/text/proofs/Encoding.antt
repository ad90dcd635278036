-- UTF-8: the bytes of a code point in each of the three ranges, and of the signs of some cells.
use mathlib.Core.Path.{◌≡◌, refl}
use mathlib.Core.List.{List, [], ◌∷◌, ◌++◌, append-nil, append_assoc, map}
use Prim.Native.Nat.{ℕ, zero, suc, ◌+◌, ◌*◌, ◌/◌, ◌%◌, ◌≤◌, ◌<◌}
use native.Mathlib.Omega.{arith}
use lib.Dec.{ltb}
use lib.ListN.{length, get_or, take, length-append, length-map, length-take}
use borrow.Author.Tests.{lt-ltb, le-ltb}
use Rattle.ground.proofs.TestLaws.{either}
use Rattle.text.specs.Text.{sign, utf8, encoded}
use Rattle.text.proofs.Trimming.{signs-more}

pub one_byte : (x : ℕ) → x < 0x80 → utf8 x ≡ x ∷ []
one_byte x h = rw (lt-ltb x 0x80 h)

pub two_bytes : (x : ℕ) → 0x80 ≤ x → x < 0x800 → utf8 x ≡ (0xC0 + x / 64) ∷ (0x80 + x % 64) ∷ []
two_bytes x l h = rw (le-ltb x 0x80 l, lt-ltb x 0x800 h)

pub three-bytes : (x : ℕ) → 0x800 ≤ x → utf8 x ≡ (0xE0 + x / 4096) ∷ (0x80 + x / 64 % 64) ∷ (0x80 + x % 64) ∷ []
three-bytes x l = rw (le-ltb x 0x80 (omega arith), le-ltb x 0x800 l)

-- ---- the signs of some cells

encoded-append : (xs ys : List ℕ) → encoded (xs ++ ys) ≡ encoded xs ++ encoded ys
unfolding encoded
encoded-append [] ys = refl
encoded-append (x ∷ xs) ys = rw (encoded-append xs ys, append_assoc (utf8 x))

-- one cell more
pub encoded-more : (r : List ℕ) (i : ℕ) → i < length r → encoded (map sign (take (i + 1) r)) ≡ encoded (map sign (take i r)) ++ utf8 (sign (get_or r i 0))
unfolding encoded
encoded-more r i h = rw (signs-more r i h, encoded-append (map sign (take i r)), append-nil)

pub encoded-more-length : (r : List ℕ) (i : ℕ) → i < length r
    → length (encoded (map sign (take (i + 1) r))) ≡ length (encoded (map sign (take i r))) + length (utf8 (sign (get_or r i 0)))
encoded-more-length r i h = rw (encoded-more r i h, length-append)

-- the first cells take no more than all
pub encoded-part : (n : ℕ) (r : List ℕ) → length (encoded (map sign (take n r))) ≤ length (encoded (map sign r))
unfolding encoded
encoded-part zero r = omega arith
encoded-part (suc n) [] = omega arith
encoded-part (suc n) (x ∷ r) = simp length-append (omega (arith, encoded-part n r))

pub utf8-short : (x : ℕ) → length (utf8 x) ≤ 3
utf8-short x =
    let Short : List ℕ → Type 0 = λ (bytes : List ℕ). length bytes ≤ 3 in
    either Short (ltb x 0x80) (λ e. omega arith) (λ e. either Short (ltb x 0x800) (λ e. omega arith) (λ e. omega arith))

pub encoded-short : (xs : List ℕ) → length (encoded xs) ≤ 3 * length xs
unfolding encoded
encoded-short [] = omega arith
encoded-short (x ∷ xs) = simp length-append (omega (arith, encoded-short xs, utf8-short x))

pub signs-short : (r : List ℕ) (n : ℕ) → length (encoded (map sign (take n r))) ≤ 3 * n
signs-short r n = omega (arith, encoded-short (map sign (take n r)), length-map (take n r) sign, length-take n r)
