-- Two lists of words that differ, or do not, and where a paste makes them differ.
use mathlib.Core.Path.{◌≡◌, refl, sym, ap, ◌∙◌}
use mathlib.Core.Bool.{Bool, true, false, not, ◌||◌, false≢true, or_assoc, or_comm, or-false}
use mathlib.Core.List.{List, [], ◌∷◌, ◌++◌}
use mathlib.Core.Logic.{◌⊎◌, ⊎_elim}
use Prim.Native.Nat.{ℕ, suc, ◌+◌, ◌≤◌, ◌<◌}
use native.Mathlib.Omega.{arith}
use lib.Dec.{eqb}
use lib.ListN.{length, get_or, take, drop, length-take, length-drop, length-append, take-append-drop}
use lib.Seq.{paste, take-add}
use borrow.Author.Tests.{eq-eqb, eqb-true, eqb-false, not-true, not-false}
use Rattle.cells.specs.Rows.{differs}
use Rattle.ground.proofs.ListLaws.{known}
use Rattle.ground.proofs.TestLaws.{or_cases, or_left, or_right}

pub differs-self : (xs : List ℕ) → differs xs xs ≡ false
differs-self [] = refl
differs-self (x ∷ xs) = rw (eq-eqb x x refl) (differs-self xs)

pub differs-append : (a b c d : List ℕ) → length a ≡ length c → differs (a ++ b) (c ++ d) ≡ differs a c || differs b d
differs-append [] b [] d e = refl
differs-append [] b (y ∷ c) d e = absurd (omega arith)
differs-append (x ∷ a) b [] d e = absurd (omega arith)
differs-append (x ∷ a) b (y ∷ c) d e = rw (differs-append a b c d (omega arith), or_assoc)

-- what a comparison of two lists finds: they are equal, or some place has another word
pub record Apart (xs ys : List ℕ) : Type 0 where
  pub place : ℕ
  pub inside : place < length xs
  pub another : get_or xs place 0 ≡ get_or ys place 0 → ⊥

pub differs_none : (xs ys : List ℕ) → length xs ≡ length ys → differs xs ys ≡ false → xs ≡ ys
differs_none [] [] l e = refl
differs_none [] (y ∷ ys) l e = absurd (omega arith)
differs_none (x ∷ xs) [] l e = absurd (omega arith)
differs_none (x ∷ xs) (y ∷ ys) l e =
    let first = eqb-true x y (not-false (eqb x y) (or_left (not (eqb x y)) (differs xs ys) e)) in
    let rest = differs_none xs ys (omega arith) (or_right (not (eqb x y)) (differs xs ys) e) in
    cc

pub differs-some : (xs ys : List ℕ) → length xs ≡ length ys → differs xs ys ≡ true → Apart xs ys
differs-some [] ys l e = absurd (false≢true e)
differs-some (x ∷ xs) [] l e = absurd (omega arith)
differs-some (x ∷ xs) (y ∷ ys) l e =
    or_cases (not (eqb x y)) (differs xs ys) e
    (λ h. record { place = 0; inside = omega arith; another = eqb-false x y (not-true (eqb x y) h) })
    (λ h. let a = differs-some xs ys (omega arith) h in record { place = suc a.place; inside = omega arith; another = a.another })

-- two lists that have another word at some place differ
pub differs-apart : (xs ys : List ℕ) → length xs ≡ length ys → (i : ℕ) → (get_or xs i 0 ≡ get_or ys i 0 → ⊥) → differs xs ys ≡ true
differs-apart xs ys l i ne = ⊎_elim (λ e. e) (λ e. absurd (ne (rw (differs_none xs ys l e)))) (known (differs xs ys))

or_swap : (a b c d : Bool) → (a || b) || (c || d) ≡ (a || c) || (b || d)
or_swap a b c d = cc (or_assoc a b (c || d), or_assoc a c (b || d), or_assoc b c d, or_assoc c b d, or_comm b c)

-- two changes of different places: together they change what either changes
pub differs-join : (p q r : List ℕ) → length q ≡ length p → length r ≡ length p
    → ((i : ℕ) → (get_or q i 0 ≡ get_or p i 0) ⊎ (get_or r i 0 ≡ get_or q i 0)) → differs p q || differs q r ≡ differs p r
differs-join [] [] r hq hr h = refl
differs-join [] (y ∷ q) r hq hr h = absurd (omega arith)
differs-join (x ∷ p) [] r hq hr h = absurd (omega arith)
differs-join (x ∷ p) (y ∷ q) [] hq hr h = absurd (omega arith)
differs-join (x ∷ p) (y ∷ q) (z ∷ r) hq hr h =
    let here : not (eqb x y) || not (eqb y z) ≡ not (eqb x z) =
    ⊎_elim (λ (e : y ≡ x). rw (e, eq-eqb x x refl)) (λ (e : z ≡ y). rw (e, eq-eqb y y refl, or-false)) (h 0) in
    let rest = differs-join p q r (omega arith) (omega arith) (λ i. h (suc i)) in
    or_swap (not (eqb x y)) (differs p q) (not (eqb y z)) (differs q r) ∙ rw (here, rest)

-- ---- pastes

-- a paste goes by the words that it takes
pub paste-ext : (x : List ℕ) (a : ℕ) (s t : List ℕ) (n : ℕ) → take n s ≡ take n t → paste x a s n ≡ paste x a t n
paste-ext x a s t n e = rw e

-- a list's own part changes nothing
pub paste-self : (x : List ℕ) (a n : ℕ) → paste x a (drop a x) n ≡ x
paste-self x a n = rw (← take-add a n x) (take-append-drop (a + n) x)

-- a list differs from what a paste makes of it where the part does
pub differs-paste : (x : List ℕ) (a : ℕ) (s : List ℕ) (n : ℕ) → a + n ≤ length x → n ≤ length s
    → differs x (paste x a s n) ≡ differs (take n (drop a x)) (take n s)
differs-paste x a s n h hs =
    let same : length (take a x ++ take n (drop a x)) ≡ length (take a x ++ take n s) = simp (length-append, length-take, length-drop) (omega arith) in
    ap (λ (l : List ℕ). differs l (paste x a s n)) (sym (paste-self x a n)) ∙ simp (differs-append, differs-self, or-false)
