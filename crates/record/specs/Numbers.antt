-- Flags as numbers, and back.
use Rattle.std.specs.Prelude.{ℕ, Bool, ◌==◌}
use Rattle.std.specs.Int.{from_bool}

-- off is 0, and on 1
abbrev pub flag_number : Bool → ℕ
flag_number on = from_bool on

abbrev pub is_on : ℕ → Bool
is_on n = n == 1
