-- A list taken in order, one value after the other.
use Rattle.std.specs.Prelude.{List, [], ◌∷◌, ℕ}

abbrev pub folded : {A : Type 0} → (A → ℕ → A) → A → List ℕ → A
folded f a [] = a
folded f a (x ∷ xs) = folded f (f a x) xs
