-- Text and its line feeds: of no byte, of one more, and of two parts.
use mathlib.Core.Path.{◌≡◌, refl, sym, ap, ap₂, ◌∙◌}
use mathlib.Core.Bool.{Bool, true, false, cond, ◌&&◌, and_assoc, and-true}
use mathlib.Core.List.{List, [], ◌∷◌, ◌++◌}
use Prim.Native.Nat.{ℕ, suc, ◌+◌, ◌-◌, ◌≤◌, ◌<◌}
use native.Mathlib.Nat.{add-zero}
use native.Mathlib.Numerals.{add-one}
use native.Mathlib.Omega.{arith}
use lib.Dec.{eqb}
use mir.Val.{bool_byte}
use lib.ListN.{length, get_or, take, drop, length-append, length-drop}
use lib.Seq.{take-suc, take-add, drop-cons, drop-drop, take-append_seam, drop-append_seam}
use Rattle.ground.specs.Spans.{span}
use Rattle.ground.specs.Folds.{folded}
use Rattle.ground.proofs.SpanLaws.{span_none}
use Rattle.ground.proofs.TestLaws.{and_left, and_right, and_both}
use Rattle.scrolling.specs.Text.{is_text, all_text, feeds_of}

pub folded-append : {A : Type 0} (f : A → ℕ → A) (a : A) (xs ys : List ℕ) → folded f a (xs ++ ys) ≡ folded f (folded f a xs) ys
folded-append f a [] ys = refl
folded-append f a (x ∷ xs) ys = folded-append f (f a x) xs ys

-- the first of the bytes from one place to another
pub span-first : (input : List ℕ) (i j : ℕ) → i < j → j ≤ length input → span input i j ≡ get_or input i 0 ∷ span input (i + 1) j
span-first input i j h l =
    let more : j - i ≡ suc (j - (i + 1)) = omega arith in
    let here : i < length input = omega arith in
    rw (more, drop-cons input i 0 here, add-one i)

pub text-append : (xs ys : List ℕ) → all_text (xs ++ ys) ≡ all_text xs && all_text ys
unfolding all_text
text-append [] ys = refl
text-append (x ∷ xs) ys = rw (text-append xs ys, and_assoc)

pub feeds-append : (xs ys : List ℕ) → feeds_of (xs ++ ys) ≡ feeds_of xs + feeds_of ys
unfolding feeds_of
feeds-append [] ys = omega arith
feeds-append (x ∷ xs) ys = rw (feeds-append xs ys) (omega arith)

pub text-first : (x : ℕ) (xs : List ℕ) → all_text (x ∷ xs) ≡ true → is_text x ≡ true
unfolding all_text
text-first x xs e = and_left (is_text x) (all_text xs) e

pub text-rest : (xs ys : List ℕ) → all_text (xs ++ ys) ≡ true → all_text ys ≡ true
text-rest xs ys e = and_right (all_text xs) (all_text ys) (sym (text-append xs ys) ∙ e)

-- ---- none, and one byte more

none : (input : List ℕ) (from : ℕ) → span input from (from + 0) ≡ []
none input from = rw add-zero (span_none input from)

pub text-none : (input : List ℕ) (from : ℕ) → true ≡ all_text (span input from (from + 0))
unfolding all_text
text-none input from = ap all_text (sym (none input from))

pub feeds-none : (input : List ℕ) (from : ℕ) → 0 ≡ feeds_of (span input from (from + 0))
unfolding feeds_of
feeds-none input from = ap feeds_of (sym (none input from))

module _ (xs : List ℕ) (k : ℕ) (h : k < length xs) where
  next : take (k + 1) xs ≡ take k xs ++ (get_or xs k 0 ∷ [])
  next = rw (add-one k) (take-suc xs k 0 h)

  pub text-more : {t u : Bool} → t ≡ all_text (take k xs) → u ≡ is_text (get_or xs k 0) → t && u ≡ all_text (take (k + 1) xs)
  unfolding all_text
  text-more e e' = rw (next, text-append, e, e', and-true)

  pub feeds-more : {m d : ℕ} → m ≡ feeds_of (take k xs) → d ≡ cond (eqb (get_or xs k 0) 0x0A) 1 0 → m + d ≡ feeds_of (take (k + 1) xs)
  unfolding feeds_of
  feeds-more e e' = rw (next, feeds-append, e, e') (omega arith)

-- 1 for a test that holds
pub byte_is : {d : ℕ} (t : Bool) → d ≡ bool_byte t → (d ≤ 1) × (d ≡ cond t 1 0)
byte_is true e = (omega arith, e)
byte_is false e = (omega arith, e)

-- ---- text ahead

-- `len` bytes of text, with so many line feeds and no more than `most`; the rest is still ahead
pub record Taken (input rest : List ℕ) (most feeds len : ℕ) : Type 0 where
  pub inside : len ≤ length input
  pub cut : rest ≡ drop len input
  pub few : feeds ≤ most
  pub text : all_text (take len input) ≡ true
  pub counted : feeds ≡ feeds_of (take len input)

pub taken-none : (input : List ℕ) (most : ℕ) → Taken input input most 0 0
unfolding all_text feeds_of
taken-none input most = record { inside = omega arith; cut = refl; few = omega arith; text = refl; counted = refl }

-- one block more
pub taken-more : {input rest rest' : List ℕ} {most feeds len more : ℕ} (block : List ℕ) → Taken input rest most feeds len → rest ≡ block ++ rest'
    → length block ≡ 16 → all_text block ≡ true → more ≡ feeds_of block → feeds + more ≤ most → Taken input rest' most (feeds + more) (len + 16)
taken-more {input} {rest} {rest'} {most} {feeds} {len} {more} block T cut long text is few =
    let here : drop len input ≡ block ++ rest' = sym T.cut ∙ cut in
    let size : length (drop len input) ≡ 16 + length rest' = ap length here ∙ length-append block rest' ∙ ap (λ (k : ℕ). k + length rest') long in
    let front : take (len + 16) input ≡ take len input ++ block =
    take-add len 16 input ∙ ap (λ (xs : List ℕ). take len input ++ take 16 xs) here ∙ ap (λ (k : ℕ). take len input ++ take k (block ++ rest')) (sym long)
    ∙ ap (λ (xs : List ℕ). take len input ++ xs) (take-append_seam block rest') in
    record {
      inside = omega (arith, length-drop len input);
      cut = sym (ap (drop 16) here ∙ ap (λ (k : ℕ). drop k (block ++ rest')) (sym long) ∙ drop-append_seam block rest') ∙ drop-drop 16 len input;
      few = few;
      text = ap all_text front ∙ text-append (take len input) block ∙ and_both _ _ T.text text;
      counted = ap₂ (λ (a b : ℕ). a + b) T.counted is ∙ sym (ap feeds_of front ∙ feeds-append (take len input) block);
    }
