-- Characters that were put: none, a block of them, and first some, then more.
use mathlib.Core.Path.{◌≡◌, sym, ap, ◌∙◌}
use mathlib.Core.Bool.{Bool, true, false, false≢true, not, ◌||◌}
use mathlib.Core.List.{List, map}
use mathlib.Core.Logic.{⊎_elim}
use Prim.Native.Nat.{ℕ, ◌+◌, ◌-◌, ◌≤◌, ◌<◌}
use native.Mathlib.Omega.{arith}
use lib.Dec.{eqb}
use lib.ListN.{length, get_or, take, drop, set, length-take, length-drop, length-map}
use lib.Seq.{drop-drop, get_or-take, get_or-drop, ext_get_or}
use Rattle.std.proofs.lemmas.List.{get_or-map, drop-map}
use borrow.Author.Count.{below_more}
use borrow.Author.Tests.{eq-eqb, ne_eqb, lt-ltb}
use Rattle.cells.specs.declared.runs.Pen.{Pen}
use Rattle.cells.specs.Segments.{Pasted}
use Rattle.cells.specs.Runs.{is_character, pen_word, PenFits, Plain, BlockWords, PutSome}
use Rattle.ground.specs.Tests.{between}
use Rattle.ground.proofs.ListLaws.{split-lt, split-eq}
use Rattle.ground.proofs.TestLaws.{between-low, between-high, in_between}
use Rattle.cells.proofs.Storing.{pasted-none, pasted-up, pasted-ext, pasted-join}

-- ---- words of a pen

module _ (n : Pen) (F : PenFits n) where
  -- a byte from `low` to 7E is a character, and its word is that of GL
  plain-character : (b : ℕ) → between n.low b 0x7E ≡ true → is_character b ≡ true
  plain-character b e =
      let low = between-low n.low b 0x7E e in
      let high = between-high n.low b 0x7E e in
      rw (in_between 0x20 b 0x7E (omega (arith, F.low)) high)

  plain_word : (b : ℕ) → between n.low b 0x7E ≡ true → pen_word n b ≡ n.left + b
  plain_word b e =
      let low = between-low n.low b 0x7E e in
      let high = between-high n.low b 0x7E e in
      ⊎_elim
      (λ (i : b ≡ 0x20). rw (eq-eqb b 0x20 i) (F.alike (omega arith) ∙ omega arith))
      (λ (ne : b ≡ 0x20 → ⊥). rw (ne_eqb b 0x20 ne, lt-ltb b 0x80 (omega arith)) (omega arith))
      (split-eq b 0x20)

  -- a block that was pasted
  pub put-block : {p q : List ℕ} {to : ℕ} {words input : List ℕ} {from k : ℕ} {flag : Bool} → k ≤ length words → from + k ≤ length input
      → Plain input from k n.low → BlockWords words input from k n.left → Pasted p q to words k flag → PutSome p q to input from n k flag
  put-block {words = words} {input = input} {from = from} {k = k} hw hi plain made P =
      let long : k ≤ length (drop from input) = simp length-drop (omega arith) in
      let same : take k words ≡ take k (map (pen_word n) (drop from input)) =
      ext_get_or 0 _ _ (simp (length-take, length-map) (omega arith)) (λ j b.
      let l : j < k = omega (arith, simp length-take at b) in
      get_or-take k words j 0 l ∙ made j l ∙ sym (plain_word (get_or input (from + j) 0) (plain j l))
      ∙ sym (get_or-take k (map (pen_word n) (drop from input)) j 0 l ∙ get_or-map (pen_word n) (drop from input) j 0 0 (omega arith)
      ∙ ap (pen_word n) (get_or-drop from input j 0))) in
      record { characters = λ j b. plain-character (get_or input (from + j) 0) (plain j b); pasted = pasted-ext _ P same }

-- ---- characters that were put

pub put-none : (p : List ℕ) (to : ℕ) (input : List ℕ) (from : ℕ) (n : Pen) (k : ℕ) → k ≡ 0 → PutSome p p to input from n k false
put-none p to input from n k e = record { characters = λ j h. absurd (omega arith); pasted = pasted-none p to _ k e }

-- first k, then m
pub put-join : {p q r : List ℕ} {to : ℕ} {input : List ℕ} {from : ℕ} {n : Pen} {k m : ℕ} {f g : Bool} → to + k ≤ length p → from + k ≤ length input
    → PutSome p q to input from n k f → PutSome q r (to + k) input (from + k) n m g → PutSome p r to input from n (k + m) (f || g)
put-join {to = to} {input = input} {from = from} {n = n} {k = k} {m = m} h hi P Q =
    let long : k ≤ length (map (pen_word n) (drop from input)) = simp (length-map, length-drop) (omega arith) in
    let rest : map (pen_word n) (drop (from + k) input) ≡ drop k (map (pen_word n) (drop from input)) = rw (drop-map, drop-drop) in
    record {
      characters = λ j b. ⊎_elim
          (λ (l : j < k). P.characters j l)
          (λ (l : k ≤ j). let e : from + k + (j - k) ≡ from + j = omega arith in rw e at (Q.characters (j - k) (omega arith)))
          (split-lt j k);
      pasted = pasted-join h long P.pasted (rw rest at Q.pasted);
    }

-- one more
pub put-more : {p q : List ℕ} {to : ℕ} {input : List ℕ} {from : ℕ} {n : Pen} {k : ℕ} {flag : Bool}
    → PutSome p q to input from n k flag → (w : ℕ) (flag' : Bool) → to + k < length p → from + k < length input
    → is_character (get_or input (from + k) 0) ≡ true → w ≡ pen_word n (get_or input (from + k) 0) → flag' ≡ flag || not (eqb (get_or q (to + k) 0) w)
    → PutSome p (set q (to + k) w) to input from n (k + 1) flag'
put-more {input = input} {from = from} {n = n} {k = k} P w flag' h hi is ew ef =
    let left : k < length (drop from input) = simp length-drop (omega arith) in
    let has : k < length (map (pen_word n) (drop from input)) = rw length-map left in
    record {
      characters = below_more _ _ P.characters is;
      pasted = pasted-up P.pasted w flag' h has (rw (get_or-map (pen_word n) (drop from input) k 0 0 left, get_or-drop) ew) ef;
    }

-- where another byte stopped it, there is one at least if the first is a character
pub put-stopped : (input : List ℕ) (from k : ℕ) → is_character (get_or input (from + k) 0) ≡ false → is_character (get_or input from 0) ≡ true → 1 ≤ k
put-stopped input from k other first =
    ⊎_elim
    (λ (z : k ≡ 0). let e : from + k ≡ from = omega arith in absurd (false≢true (sym (rw e at other) ∙ first)))
    (λ (ne : k ≡ 0 → ⊥). omega arith)
    (split-eq k 0)
