-- Numbers in decimal: plain digits, no leading zeros.
use Rattle.std.specs.Prelude.{cond, List, [], ◌∷◌, ◌++◌, ℕ, zero, suc, ◌+◌, ◌-◌, ◌*◌, ◌/◌, ◌%◌, ltb}

-- the digits of n in at most suc k places: those of n / 10, then the last
unfoldable pub digits_in : ℕ → ℕ → List ℕ
digits_in zero n = (0x30 + n) ∷ []
digits_in (suc k) n =
    let front = digits_in k (n / 10) in
    cond (ltb n 10) ((0x30 + n) ∷ []) (front ++ ((0x30 + n % 10) ∷ []))

-- suc n places are enough for n
unfoldable pub decimal : ℕ → List ℕ
decimal n = digits_in n n

-- ---- back: the number that digits stand for

abbrev pub value_from : ℕ → List ℕ → ℕ
value_from v [] = v
value_from v (d ∷ ds) = value_from (10 * v + (d - 0x30)) ds

abbrev pub value_of : List ℕ → ℕ
value_of ds = value_from 0 ds
