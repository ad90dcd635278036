-- Bytes on one display: the laws of appended input, and what they keep.
use Rattle.std.proofs.Common.{◌≡◌, ℕ, ◌*◌, Bool, true, false, ◌&&◌, List, [], ◌∷◌, ◌++◌, length, sym, refl, ap, ◌∙◌}
use Rattle.core_state.specs.declared.Core.{Core}
use Rattle.dispatch.specs.Decide.{decided}
use Rattle.wholeness.proofs.Sound.{decided-sound}
use Rattle.steps.specs.OneDisplay.{Display, edits_of, acts, acts_over, core_over, lasting, AllQuiet, RestQuiet}
use Rattle.steps.specs.Ready.{Paged}
use Rattle.steps.proofs.StepLaws.{edited-fits}

-- ---- appended input

pub over-append : (d : Display) (xs ys : List ℕ) → acts_over d (xs ++ ys) ≡ acts_over (acts_over d xs) ys
unfolding acts_over
over-append d [] ys = refl
over-append d (x ∷ xs) ys = over-append (acts d x) xs ys

pub acts-core : (d : Display) (b : ℕ) → (acts d b).core ≡ (decided d.core b).core
unfolding acts
acts-core d b = refl

pub over-core : (d : Display) (xs : List ℕ) → (acts_over d xs).core ≡ core_over d.core xs
unfolding acts_over core_over
over-core d [] = refl
over-core d (x ∷ xs) = over-core (acts d x) xs ∙ ap (λ (c : Core). core_over c xs) (acts-core d x)

-- what lasts was on at first, and is at the end
pub and_same : (a : Bool) → (a && a) ≡ a
and_same true = refl
and_same false = refl

and-twice : (a b : Bool) → (a && (a && b)) ≡ (a && b)
and-twice true b = refl
and-twice false b = refl

pub lasting-first : (c : Core) (xs : List ℕ) → (c.modes.autowrap && lasting c xs) ≡ lasting c xs
unfolding lasting
lasting-first c [] = and_same c.modes.autowrap
lasting-first c (x ∷ xs) = and-twice c.modes.autowrap (lasting (decided c x).core xs)

pub and_assoc : (a b c : Bool) → ((a && b) && c) ≡ (a && (b && c))
and_assoc true b c = refl
and_assoc false b c = refl

pub lasting-last : (c : Core) (xs : List ℕ) → (lasting c xs && (core_over c xs).modes.autowrap) ≡ lasting c xs
unfolding lasting core_over
lasting-last c [] = and_same c.modes.autowrap
lasting-last c (x ∷ xs) =
    let c' = (decided c x).core in
    and_assoc c.modes.autowrap (lasting c' xs) (core_over c' xs).modes.autowrap ∙ ap (λ (t : Bool). c.modes.autowrap && t) (lasting-last c' xs)

pub lasting-append : (c : Core) (xs ys : List ℕ) → lasting c (xs ++ ys) ≡ (lasting c xs && lasting (core_over c xs) ys)
unfolding lasting core_over
lasting-append c [] ys = sym (lasting-first c ys)
lasting-append c (x ∷ xs) ys =
    ap (λ (t : Bool). c.modes.autowrap && t) (lasting-append (decided c x).core xs ys)
    ∙ sym (and_assoc c.modes.autowrap (lasting (decided c x).core xs) (lasting (core_over (decided c x).core xs) ys))

pub quiet-append : (c : Core) (xs ys : List ℕ) → AllQuiet c xs → AllQuiet (core_over c xs) ys → AllQuiet c (xs ++ ys)
unfolding AllQuiet core_over
quiet-append c [] ys h k = k
quiet-append c (x ∷ xs) ys (q, h) k = (q, quiet-append (decided c x).core xs ys h k)

quiet-rest : (c : Core) (xs : List ℕ) → AllQuiet c xs → RestQuiet c xs
unfolding AllQuiet RestQuiet
quiet-rest c [] h = tt
quiet-rest c (x ∷ xs) (q, h) = h

pub rest-append : (c : Core) (xs ys : List ℕ) → RestQuiet c xs → AllQuiet (core_over c xs) ys → RestQuiet c (xs ++ ys)
unfolding RestQuiet core_over
rest-append c [] ys h k = quiet-rest c ys k
rest-append c (x ∷ xs) ys h k = quiet-append (decided c x).core xs ys h k

-- ---- what a byte keeps

abbrev pub PagedAt : Display → Type 0
PagedAt d = Paged d.core d.cells

module _ (d : Display) (b : ℕ) (k : PagedAt d) where
  acts-rows : (acts d b).core.rows ≡ d.core.rows
  unfolding acts
  acts-rows = (decided-sound d.core b k.whole).rows

  pub acts-paged : PagedAt (acts d b)
  unfolding acts
  acts-paged =
      let s = decided-sound d.core b k.whole in
      record {
        whole = s.whole;
        size = rw s.rows (edited-fits d.core.rows (edits_of (decided d.core b)) d.cells k.size s.first s.second).size;
      }

  pub acts-long : length (acts d b).cells ≡ length d.cells
  acts-long = acts-paged.size ∙ ap (λ (n : ℕ). 80 * n) acts-rows ∙ sym k.size

pub over-paged : (d : Display) (xs : List ℕ) → PagedAt d → PagedAt (acts_over d xs)
unfolding acts_over
over-paged d [] k = k
over-paged d (x ∷ xs) k = over-paged (acts d x) xs (acts-paged d x k)
