-- A page is a list of words, rows of 80 one after the other. Rows and columns are counted from 0 here.
use Rattle.std.specs.Prelude.{Bool, true, false, not, ◌||◌, List, [], ◌∷◌, ◌++◌, ℕ, zero, suc, ◌*◌, eqb, get_or, take, drop}

-- row k of a page
abbrev pub row : List ℕ → ℕ → List ℕ
row p k = take 80 (drop (80 * k) p)

-- the page whose rows are f 0, f 1, .. f (n - 1)
unfoldable pub joined : ℕ → (ℕ → List ℕ) → List ℕ
joined zero f = []
joined (suc n) f = f zero ++ joined n (λ k. f (suc k))

-- the first n rows of a page: `nth` of them is what `row` gives, at a cost that grows with the page and not its square
abbrev pub rows_of : ℕ → List ℕ → List (List ℕ)
rows_of zero p = []
rows_of (suc n) p = take 80 p ∷ rows_of n (drop 80 p)

abbrev pub nth : List (List ℕ) → ℕ → List ℕ
nth rs k = get_or rs k []

-- some place of the first list has another word in the second
abbrev pub differs : List ℕ → List ℕ → Bool
differs [] ys = false
differs (x ∷ xs) [] = true
differs (x ∷ xs) (y ∷ ys) = not (eqb x y) || differs xs ys

-- every word of a list has a property
abbrev pub Every : (ℕ → Type 0) → List ℕ → Type 0
Every P [] = Unit {0}
Every P (x ∷ xs) = P x × Every P xs
