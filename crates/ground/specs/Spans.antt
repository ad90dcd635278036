-- The bytes of an input from one place up to another.
use Rattle.std.specs.Prelude.{List, ℕ, ◌-◌, take, drop}

abbrev pub span : List ℕ → ℕ → ℕ → List ℕ
span input from next = take (next - from) (drop from input)
