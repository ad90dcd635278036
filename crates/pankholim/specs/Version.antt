-- The library's version.
use Rattle.std.specs.Prelude.{ℕ, ◌+◌, ◌*◌}

-- as one number: a later version's is larger, while minor and patch are below 256
abbrev pub packed : ℕ → ℕ → ℕ → ℕ
packed major minor patch = 65536 * major + 256 * minor + patch

abbrev pub version : ℕ
version = packed 0 5 0
