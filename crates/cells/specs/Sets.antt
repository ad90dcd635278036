-- Sets of rows: a function to Bool. As a number, a bit for each row, the first row's the lowest.
use Rattle.std.specs.Prelude.{Bool, ◌||◌, List, ℕ, zero, suc, ◌+◌, ◌*◌, ◌/◌, ◌%◌, ◌^◌, eqb}
use Rattle.cells.specs.Cells.{bit}
use Rattle.cells.specs.Rows.{row, rows_of, nth, differs}

-- the number whose bits are the rows below n that are in the set
unfoldable pub bits_of : ℕ → (ℕ → Bool) → ℕ
bits_of zero s = 0
bits_of (suc n) s = bit (s n) * 2 ^ n + bits_of n s

-- whether row k is among the bits of m
abbrev pub has_bit : ℕ → ℕ → Bool
has_bit m k = eqb (m / 2 ^ k % 2) 1

-- the bits of m below n, with the rows of a set added
unfoldable pub added : ℕ → ℕ → (ℕ → Bool) → ℕ
added n m s = bits_of n (λ k. has_bit m k || s k)

-- how many rows below n are in the set
unfoldable pub size_of : ℕ → (ℕ → Bool) → ℕ
size_of zero s = 0
size_of (suc n) s = bit (s n) + size_of n s

-- the rows in which some cell holds another word in q than in p
abbrev pub changed : List ℕ → List ℕ → ℕ → Bool
changed p q k = differs (row p k) (row q k)

-- the same of pages of n rows, computed row by row
abbrev pub changed_in : ℕ → List ℕ → List ℕ → ℕ → Bool
changed_in n p q =
    let a = rows_of n p in
    let b = rows_of n q in
    λ k. differs (nth a k) (nth b k)
