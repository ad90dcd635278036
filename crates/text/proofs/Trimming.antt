-- The spaces at the end of a row: what is left without them, cell by cell from the end.
use mathlib.Core.Path.{◌≡◌, refl, sym, ap, ◌∙◌}
use mathlib.Core.List.{List, [], ◌∷◌, ◌++◌, map, map-append}
use Prim.Native.Nat.{ℕ, ◌+◌, ◌-◌, ◌≤◌, ◌<◌}
use native.Mathlib.Numerals.{add-one}
use native.Mathlib.Omega.{arith}
use lib.Dec.{eqb}
use lib.ListN.{length, get_or, take, length-map, length-take}
use lib.Seq.{take-suc, take-length, length-take-le}
use borrow.Author.Tests.{ne_eqb}
use Rattle.std.proofs.lemmas.List.{take-map}
use Rattle.ground.proofs.TestLaws.{either}
use Rattle.text.specs.Text.{sign, before, trimmed}

-- a space at the end goes
trimmed-space : (xs : List ℕ) → trimmed (xs ++ (0x20 ∷ [])) ≡ trimmed xs
unfolding trimmed
trimmed-space [] = refl
trimmed-space (x ∷ xs) = ap (before x) (trimmed-space xs)

before-some : (y : ℕ) (ys : List ℕ) (x : ℕ) → before y (ys ++ (x ∷ [])) ≡ y ∷ (ys ++ (x ∷ []))
before-some y [] x = refl
before-some y (z ∷ zs) x = refl

-- any other sign at the end keeps all
trimmed-sign : (xs : List ℕ) (x : ℕ) → (x ≡ 0x20 → ⊥) → trimmed (xs ++ (x ∷ [])) ≡ xs ++ (x ∷ [])
unfolding trimmed
trimmed-sign [] x h = rw (ne_eqb x 0x20 h)
trimmed-sign (y ∷ ys) x h = ap (before y) (trimmed-sign ys x h) ∙ before-some y ys x

-- what is left is the front
trimmed-front : (xs : List ℕ) → trimmed xs ≡ take (length (trimmed xs)) xs
unfolding trimmed
trimmed-front [] = refl
trimmed-front (x ∷ xs) = go (trimmed xs) (trimmed-front xs)
  where
    go : (t : List ℕ) → t ≡ take (length t) xs → before x t ≡ take (length (before x t)) (x ∷ xs)
    go [] e = either (λ (t : List ℕ). t ≡ take (length t) (x ∷ xs)) (eqb x 0x20) (λ q. refl) (λ q. refl)
    go (y ∷ ys) e = ap (λ (l : List ℕ). x ∷ l) e

-- the signs of one cell more
pub signs-more : (r : List ℕ) (i : ℕ) → i < length r → map sign (take (i + 1) r) ≡ map sign (take i r) ++ (sign (get_or r i 0) ∷ [])
signs-more r i h = rw add-one (ap (map sign) (take-suc r i 0 h) ∙ map-append sign (take i r) (get_or r i 0 ∷ []))

-- no cells
pub trim_none : (r : List ℕ) → length r < 1 → trimmed (map sign r) ≡ map sign r
unfolding trimmed
trim_none [] h = refl
trim_none (x ∷ r) h = absurd (omega arith)

-- some cells, and their last
module _ (r : List ℕ) (some : 0 < length r) where
  signs-last : map sign r ≡ map sign (take (length r - 1) r) ++ (sign (get_or r (length r - 1) 0) ∷ [])
  signs-last =
      let e : length r - 1 + 1 ≡ length r = omega arith in
      rw (e, take-length r) at (signs-more r (length r - 1) (omega arith))

  pub trim-more : sign (get_or r (length r - 1) 0) ≡ 0x20 → trimmed (map sign r) ≡ trimmed (map sign (take (length r - 1) r))
  trim-more e = rw (signs-last, e) (trimmed-space (map sign (take (length r - 1) r)))

  pub trim-stop : (sign (get_or r (length r - 1) 0) ≡ 0x20 → ⊥) → trimmed (map sign r) ≡ map sign r
  trim-stop ne = rw signs-last (trimmed-sign (map sign (take (length r - 1) r)) (sign (get_or r (length r - 1) 0)) ne)

pub trimmed-within : (r : List ℕ) → length (trimmed (map sign r)) ≤ length r
trimmed-within r =
    let e = ap length (trimmed-front (map sign r)) in
    omega (arith, e ∙ length-take (length (trimmed (map sign r))) (map sign r), length-map r sign)

-- the cells that are left
module _ (r : List ℕ) (n : ℕ) (e : n ≡ length (trimmed (map sign r))) where
  pub left-count : n ≡ length (take n r)
  left-count = sym (length-take-le n r (omega (arith, trimmed-within r)))

-- they have the signs that are left
pub left-signs : (r : List ℕ) → map sign (take (length (trimmed (map sign r))) r) ≡ trimmed (map sign r)
left-signs r = sym (take-map sign (length (trimmed (map sign r))) r) ∙ sym (trimmed-front (map sign r))
