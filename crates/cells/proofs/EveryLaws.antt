-- A property that every word of a list has, its parts have, and what is put together of lists that have it.
use mathlib.Core.Bool.{Bool, cond}
use mathlib.Core.List.{List, [], ◌∷◌, ◌++◌, map}
use Prim.Native.Nat.{ℕ, zero, suc}
use lib.ListN.{take, drop, set, replicate}
use lib.Seq.{paste}
use Rattle.ground.proofs.TestLaws.{either}
use Rattle.cells.specs.Rows.{joined, rows_of, nth, Every}

pub every-weaker : (P Q : ℕ → Type 0) → ((w : ℕ) → P w → Q w) → (l : List ℕ) → Every P l → Every Q l
every-weaker P Q f [] h = tt
every-weaker P Q f (x ∷ l) h = (f x h.0, every-weaker P Q f l h.1)

module _ (P : ℕ → Type 0) where
  pub every_append : (a b : List ℕ) → Every P a → Every P b → Every P (a ++ b)
  every_append [] b h k = k
  every_append (x ∷ a) b h k = (h.0, every_append a b h.1 k)

  pub every_take : (n : ℕ) (l : List ℕ) → Every P l → Every P (take n l)
  every_take zero l h = tt
  every_take (suc n) [] h = tt
  every_take (suc n) (x ∷ l) h = (h.0, every_take n l h.1)

  pub every_drop : (n : ℕ) (l : List ℕ) → Every P l → Every P (drop n l)
  every_drop zero l h = h
  every_drop (suc n) [] h = tt
  every_drop (suc n) (x ∷ l) h = every_drop n l h.1

  pub every-replicate : (n w : ℕ) → P w → Every P (replicate n w)
  every-replicate zero w h = tt
  every-replicate (suc n) w h = (h, every-replicate n w h)

  pub every_set : (l : List ℕ) (i w : ℕ) → P w → Every P l → Every P (set l i w)
  every_set [] i w h k = tt
  every_set (x ∷ l) zero w h k = (h, k.1)
  every_set (x ∷ l) (suc i) w h k = (k.0, every_set l i w h k.1)

  pub every_map : (f : ℕ → ℕ) → ((w : ℕ) → P w → P (f w)) → (l : List ℕ) → Every P l → Every P (map f l)
  every_map f g [] h = tt
  every_map f g (x ∷ l) h = (g x h.0, every_map f g l h.1)

  pub every-paste : (d : List ℕ) (at : ℕ) (s : List ℕ) (n : ℕ) → Every P d → Every P s → Every P (paste d at s n)
  every-paste d at s n h k = search (every_append, every_take, every_drop)

  pub every-cond : (t : Bool) (a b : List ℕ) → Every P a → Every P b → Every P (cond t a b)
  every-cond t a b h k = either (Every P) t (λ e. h) (λ e. k)

  -- ---- rows

  pub every-row : (n : ℕ) (p : List ℕ) → Every P p → (k : ℕ) → Every P (nth (rows_of n p) k)
  every-row zero p h k = tt
  every-row (suc n) p h zero = every_take 80 p h
  every-row (suc n) p h (suc k) = every-row n (drop 80 p) (every_drop 80 p h) k

  pub every-joined : (n : ℕ) (f : ℕ → List ℕ) → ((k : ℕ) → Every P (f k)) → Every P (joined n f)
  unfolding joined
  every-joined zero f h = tt
  every-joined (suc n) f h = every_append (f zero) (joined n (λ k. f (suc k))) (h zero) (every-joined n (λ k. f (suc k)) (λ k. h (suc k)))
