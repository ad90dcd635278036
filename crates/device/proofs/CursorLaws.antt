-- Two facts about the cursor's row.
use mathlib.Core.Path.{◌≡◌}
use mathlib.Core.Bool.{Bool, true, false, cond}
use Prim.Native.Nat.{ℕ, ◌+◌, ◌-◌, ◌≤◌, max}
use native.Mathlib.Omega.{arith}

-- a row that stays or goes down is still at least 1
pub still-low : (t : Bool) (r : ℕ) → 1 ≤ r → 1 ≤ cond t r (r + 1)
still-low true r h = h
still-low false r h = omega arith

-- a row counted from the one that is picked
pub counted : (t : Bool) (row top : ℕ) → 1 ≤ row → max 0 (row - cond t top 1) + 1 ≡ cond t (row - top + 1) row
counted true row top h = omega arith
counted false row top h = omega arith
