-- Boolean tests: what an `&&`, a `||`, an implication or a `cond` tells.
use mathlib.Core.Path.{◌≡◌, refl}
use mathlib.Core.Bool.{Bool, true, false, cond, ◌&&◌, ◌||◌, and_assoc, and_comm, and-true, or_comm}
use mathlib.Core.List.{List, [], ◌∷◌}
use mathlib.Core.Logic.{⊎_elim}
use Prim.Native.Nat.{ℕ, zero, suc, ◌≤◌}
use lib.Dec.{leb}
use lib.ListN.{get_or}
use borrow.Author.Tests.{leb-true, le-leb}
use Rattle.ground.specs.Tests.{between, implies, all}
use Rattle.ground.proofs.ListLaws.{split-eq}

pub and_left : (a b : Bool) → (a && b) ≡ true → a ≡ true
and_left true b e = refl
and_left false b e = e

pub and_right : (a b : Bool) → (a && b) ≡ true → b ≡ true
and_right a b e = and_left b a (rw (and_comm b a) e)

pub and_both : (a b : Bool) → a ≡ true → b ≡ true → (a && b) ≡ true
and_both a b p q = rw (p, q)

pub or_cases : {C : Type 0} (a b : Bool) → (a || b) ≡ true → (a ≡ true → C) → (b ≡ true → C) → C
or_cases true b e f g = f refl
or_cases false b e f g = g e

pub or_left : (a b : Bool) → (a || b) ≡ false → a ≡ false
or_left true b e = e
or_left false b e = refl

pub or_right : (a b : Bool) → (a || b) ≡ false → b ≡ false
or_right a b e = or_left b a (rw (or_comm b a) e)

-- nine tests, as the code has them and as the definition has them
pub nine : (a b c d e f g h i : Bool) → a && b && c && d && e && f && g && h && i ≡ all (a ∷ b ∷ c ∷ d ∷ e ∷ f ∷ g ∷ h ∷ i ∷ [])
nine a b c d e f g h i = simp (and_assoc, and-true)

-- each of the tests holds
pub all-at : (ts : List Bool) → all ts ≡ true → (k : ℕ) → get_or ts k true ≡ true
all-at [] e k = refl
all-at (t ∷ ts) e zero = and_left t (all ts) e
all-at (t ∷ ts) e (suc k) = all-at ts (and_right t (all ts) e) k

pub implied : (a b : Bool) → implies a b ≡ true → a ≡ true → b ≡ true
implied a b e h = rw h at e

pub implying : (a b : Bool) → (a ≡ true → b ≡ true) → implies a b ≡ true
implying true b f = f refl
implying false b f = refl

pub between-low : (l x h : ℕ) → between l x h ≡ true → l ≤ x
between-low l x h e = leb-true l x (and_left (leb l x) (leb x h) e)

pub between-high : (l x h : ℕ) → between l x h ≡ true → x ≤ h
between-high l x h e = leb-true x h (and_right (leb l x) (leb x h) e)

pub in_between : (l x h : ℕ) → l ≤ x → x ≤ h → between l x h ≡ true
in_between l x h a b = rw (le-leb l x a, le-leb x h b)

-- a property of both arms of a test
pub either : {A : Type 0} (P : A → Type 0) (t : Bool) {x y : A} → (t ≡ true → P x) → (t ≡ false → P y) → P (cond t x y)
either P true p q = p refl
either P false p q = q refl

-- a number is k, or it is not
pub at-number : (P : ℕ → Type 0) (n k : ℕ) → P k → ((n ≡ k → ⊥) → P n) → P n
at-number P n k p q = ⊎_elim (λ (e : n ≡ k). rw e p) q (split-eq n k)
