-- Which rows differ, as bits: after no change, after one row's, and after two changes of different rows.
use mathlib.Core.Path.{◌≡◌, ◌∙◌}
use mathlib.Core.Bool.{Bool, false, ◌||◌, or-false}
use mathlib.Core.List.{List}
use mathlib.Core.Logic.{◌⊎◌, ⊎_elim}
use Prim.Native.Nat.{ℕ, zero, suc, ◌*◌, ◌^◌, ◌≤◌, ◌<◌}
use native.Mathlib.Nat.{zero-mul, zero-add, eq-or-lt_of_le}
use native.Mathlib.Omega.{arith}
use lib.Bits.{bit_or}
use lib.ListN.{length, drop_of_length-le}
use Rattle.cells.specs.Cells.{bit}
use Rattle.cells.specs.Rows.{row, differs}
use Rattle.cells.specs.Sets.{bits_of, changed}
use Rattle.cells.proofs.Differing.{differs-self}
use Rattle.cells.proofs.BitLaws.{bits-ext, bits-one, bits-or, bits_none}

pub changed-none : (n : ℕ) (p : List ℕ) → bits_of n (changed p p) ≡ 0
changed-none n p = bits-ext n (changed p p) (λ j. false) (λ j l. differs-self (row p j)) ∙ bits_none n

-- row k alone may differ
pub changed-one : (n : ℕ) (p q : List ℕ) (k : ℕ) (flag : Bool) → k < n → differs (row p k) (row q k) ≡ flag
    → ((j : ℕ) → (j ≡ k → ⊥) → row q j ≡ row p j) → bits_of n (changed p q) ≡ bit flag * 2 ^ k
changed-one n p q k flag l e others = rw (← e) (bits-one n k (changed p q) l (λ j ne. rw (others j ne) (differs-self (row p j))))

-- two changes that touch different rows: together they change what either changes
pub changed-join : (n : ℕ) (p q r : List ℕ) → ((j : ℕ) → j < n → (row p j ≡ row q j) ⊎ (row q j ≡ row r j))
    → bit_or (bits_of n (changed p q)) (bits_of n (changed q r)) ≡ bits_of n (changed p r)
changed-join n p q r apart =
    bits-or n (changed p q) (changed q r) ∙ bits-ext n (λ k. changed p q k || changed q r k) (changed p r) (λ j h. ⊎_elim
    (λ (e : row p j ≡ row q j). rw (e, differs-self (row q j))) (λ (e : row q j ≡ row r j). rw (← e, differs-self (row q j), or-false)) (apart j h))

-- rows past the page do not differ, so bits for more rows than it has are the same
pub changed-more : (n m : ℕ) (p q : List ℕ) → n ≤ m → length p ≤ 80 * n → bits_of m (changed p q) ≡ bits_of n (changed p q)
unfolding bits_of
changed-more n zero p q h l = let e : n ≡ 0 = omega arith in rw e
changed-more n (suc m) p q h l =
    let past : n ≤ m → changed p q m ≡ false = λ b. let o : length p ≤ 80 * m = omega arith in rw (drop_of_length-le p o) in
    ⊎_elim (λ (e : n ≡ suc m). rw e) (λ b. rw (past (omega arith), zero-mul, zero-add) (changed-more n m p q (omega arith) l)) (eq-or-lt_of_le h)
