-- Tests, as Booleans.
use Rattle.std.specs.Prelude.{Bool, true, not, ◌&&◌, ◌||◌, List, [], ◌∷◌, ℕ, leb}

-- both ends are inside
abbrev pub between : ℕ → ℕ → ℕ → Bool
between low n high = leb low n && leb n high

abbrev pub implies : Bool → Bool → Bool
implies a b = not a || b

abbrev pub all : List Bool → Bool
all [] = true
all (t ∷ ts) = t && all ts
