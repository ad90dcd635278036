-- What a run of digits, 3A and 3B means (SCOPE 3.13 to 3.15 and 3.18), with no limit to the places: 3B parts the parameters, and 3A a parameter
-- and its subparameters.
use Rattle.std.specs.Prelude.{Bool, true, cond, ◌&&◌, List, [], ◌∷◌, ◌++◌, ℕ, ◌+◌, ◌-◌, ◌*◌, min, eqb, replicate}
use Rattle.ground.specs.Folds.{folded}
use Rattle.ground.specs.Tests.{between}
use Rattle.parser.specs.Params.{joined}

-- how many 3A there are
abbrev pub colons : List ℕ → ℕ
colons = folded (λ n x. cond (eqb x 0x3A) (n + 1) n) 0

-- the number that digits make: none is 0, and above 9,999 it stays 9,999
abbrev pub number : List ℕ → ℕ
number = folded (λ v x. min 9999 (10 * v + (x - 0x30))) 0

-- the places of one parameter: its number; or, with subparameters, one for it and one for each of them, which are no numbers
abbrev pub group : List ℕ → List ℕ
group p = cond (eqb (colons p) 0) (number p ∷ []) (replicate (colons p + 1) joined)

-- the places of all, p what is read since the last 3B
abbrev pub places_from : List ℕ → List ℕ → List ℕ
places_from p [] = group p
places_from p (x ∷ xs) = cond (eqb x 0x3B) (group p ++ places_from [] xs) (places_from (p ++ x ∷ []) xs)

abbrev pub places : List ℕ → List ℕ
places xs = places_from [] xs

-- digits, 3A and 3B
abbrev pub are_parameters : List ℕ → Bool
are_parameters [] = true
are_parameters (x ∷ xs) = between 0x30 x 0x3B && are_parameters xs
