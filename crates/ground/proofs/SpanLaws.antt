-- The bytes of an input from one place up to another: none, one more, and what lies before and after them.
use mathlib.Core.Path.{◌≡◌, sym, ap, ◌∙◌}
use mathlib.Core.List.{List, [], ◌∷◌, ◌++◌}
use Prim.Native.Nat.{ℕ, suc, ◌+◌, ◌-◌, ◌≤◌, ◌<◌}
use native.Mathlib.Nat.{sub_self, add-sub_of_le}
use native.Mathlib.Omega.{arith}
use lib.ListN.{length, get_or, take, drop, length-drop, take-append-drop}
use lib.Seq.{take-suc, take-add, drop-drop, get_or-drop}
use Rattle.ground.specs.Spans.{span}

pub span_none : (input : List ℕ) (from : ℕ) → span input from from ≡ []
span_none input from = ap (λ (k : ℕ). take k (drop from input)) (sub_self from)

pub take-span : (input : List ℕ) (from i : ℕ) → from ≤ i → take i input ≡ take from input ++ span input from i
take-span input from i h = ap (λ (k : ℕ). take k input) (sym (add-sub_of_le h)) ∙ take-add from (i - from) input

-- what is left of what is left
drop-on : (input : List ℕ) (from i : ℕ) → from ≤ i → drop (i - from) (drop from input) ≡ drop i input
drop-on input from i h = drop-drop (i - from) from input ∙ ap (λ (k : ℕ). drop k input) (add-sub_of_le h)

pub drop-span : (input : List ℕ) (from i : ℕ) → from ≤ i → drop from input ≡ span input from i ++ drop i input
drop-span input from i h = rw (← drop-on input from i h) (sym (take-append-drop (i - from) (drop from input)))

pub span-append : (input : List ℕ) (from i j : ℕ) → from ≤ i → i ≤ j → span input from j ≡ span input from i ++ span input i j
span-append input from i j h k =
    let parts : j - from ≡ (i - from) + (j - i) = omega arith in
    rw (parts, take-add (i - from) (j - i) (drop from input), drop-on input from i h)

pub span_more : (input : List ℕ) (from i : ℕ) → from ≤ i → i < length input → span input from (i + 1) ≡ span input from i ++ (get_or input i 0 ∷ [])
span_more input from i h more =
    let next : (i + 1) - from ≡ suc (i - from) = omega arith in
    let inside : i - from < length (drop from input) = rw (length-drop from input) (omega arith) in
    rw (next, take-suc (drop from input) (i - from) 0 inside, get_or-drop from input (i - from) 0, add-sub_of_le h)
