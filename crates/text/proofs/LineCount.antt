-- The text of a page of n rows has n lines: the sign of a cell is never 0A.
use mathlib.Core.Path.{◌≡◌, refl}
use mathlib.Core.Bool.{Bool, true, ◌&&◌, ◌||◌}
use mathlib.Core.List.{List, [], ◌∷◌, ◌++◌, map}
use mathlib.Core.Logic.{⊎_elim}
use Prim.Native.Nat.{ℕ, zero, suc, ◌+◌, ◌-◌, ◌/◌, ◌%◌, ◌≤◌, ◌<◌}
use native.Mathlib.Omega.{arith}
use lib.Dec.{eqb, leb, ltb}
use lib.ListN.{length, get_or, take, drop}
use borrow.Author.Tests.{ne_eqb, leb-true, ltb-false, eqb-false}
use Rattle.cells.specs.declared.CharSet.{CharSet}
use Rattle.cells.specs.declared.CharSet.TheVariants.{Ascii, SpecialGraphics, Supplemental, Latin1}
use Rattle.cells.specs.Cells.{unpacked}
use Rattle.cells.specs.Rows.{rows_of}
use Rattle.ground.proofs.ListLaws.{split-lt}
use Rattle.ground.proofs.TestLaws.{and_left, and_right, or_left, or_right, either}
use Rattle.text.specs.Text.{line_drawing, shown_code, graphic_sign, sign_in, sign, utf8, trimmed, encoded, line, lines, text_of, line_count}
use Rattle.text.proofs.Trimming.{left-signs}
use Rattle.text.proofs.Encoding.{one_byte, two_bytes, three-bytes}

-- ---- every sign is 20 or more

-- a test that passes at every entry of a table, computed once, holds of each
abbrev pub every : (ℕ → Bool) → List ℕ → Bool
every f [] = true
every f (x ∷ xs) = f x && every f xs

pub at : (f : ℕ → Bool) (xs : List ℕ) → every f xs ≡ true → (k : ℕ) → k < length xs → f (get_or xs k 0) ≡ true
at f [] e k h = absurd (omega arith)
at f (x ∷ xs) e zero h = and_left (f x) (every f xs) e
at f (x ∷ xs) e (suc k) h = at f xs (and_right (f x) (every f xs) e) k (omega arith)

code-shown : (x : ℕ) → 0x20 ≤ shown_code x
code-shown x =
    either (λ (y : ℕ). 0x20 ≤ y) (ltb x 0x20 || eqb x 0x7F) (λ e. omega arith) (λ e. ltb-false x 0x20 (or_left (ltb x 0x20) (eqb x 0x7F) e))

graphic-shown : (x : ℕ) → x < 0x80 → 0x20 ≤ graphic_sign x
graphic-shown x h =
    either (λ (y : ℕ). 0x20 ≤ y) (ltb x 0x5F || eqb x 0x7F)
    (λ e. code-shown x)
    (λ e.
    let l = ltb-false x 0x5F (or_left (ltb x 0x5F) (eqb x 0x7F) e) in
    let n = eqb-false x 0x7F (or_right (ltb x 0x5F) (eqb x 0x7F) e) in
    leb-true 0x20 (get_or line_drawing (x - 0x5F) 0) (at (leb 0x20) line_drawing refl (x - 0x5F) (omega arith)))

in-set-shown : (s : CharSet) (x : ℕ) → x < 0x80 → 0x20 ≤ sign_in s x
in-set-shown Ascii x h = code-shown x
in-set-shown SpecialGraphics x h = graphic-shown x h
in-set-shown Supplemental x h = omega arith
in-set-shown Latin1 x h = omega arith

pub sign-shown : (w : ℕ) → 0x20 ≤ sign w
unfolding unpacked sign
sign-shown w =
    either (λ (y : ℕ). 0x20 ≤ y) (eqb (w % 128) 0x1A) (λ e. omega arith) (λ e. in-set-shown (unpacked w).set (w % 128) (omega arith))

-- ---- and its bytes are not 0A

count-append : (xs ys : List ℕ) → line_count (xs ++ ys) ≡ line_count xs + line_count ys
unfolding line_count
count-append [] ys = omega arith
count-append (x ∷ xs) ys = omega (arith, count-append xs ys)

utf8-unbroken : (x : ℕ) → 0x20 ≤ x → line_count (utf8 x) ≡ 0
unfolding line_count
utf8-unbroken x h =
    ⊎_elim
    (λ l. rw (one_byte x l, ne_eqb x 0x0A (omega arith)))
    (λ l. ⊎_elim
    (λ m. rw (two_bytes x l m, ne_eqb (0xC0 + x / 64) 0x0A (omega arith), ne_eqb (0x80 + x % 64) 0x0A (omega arith)))
    (λ m. rw (three-bytes x m, ne_eqb (0xE0 + x / 4096) 0x0A (omega arith))
    (rw (ne_eqb (0x80 + x / 64 % 64) 0x0A (omega arith), ne_eqb (0x80 + x % 64) 0x0A (omega arith))))
    (split-lt x 0x800))
    (split-lt x 0x80)

signs-unbroken : (r : List ℕ) → line_count (encoded (map sign r)) ≡ 0
unfolding encoded line_count
signs-unbroken [] = refl
signs-unbroken (w ∷ r) = omega (arith, count-append (utf8 (sign w)) (encoded (map sign r)), utf8-unbroken (sign w) (sign-shown w), signs-unbroken r)

line-ends : (r : List ℕ) → line_count (line r) ≡ 1
unfolding line_count
line-ends r =
    let n = length (trimmed (map sign r)) in
    let none : line_count (encoded (trimmed (map sign r))) ≡ 0 = rw (← left-signs r) (signs-unbroken (take n r)) in
    omega (arith, count-append (encoded (trimmed (map sign r))) (0x0A ∷ []))

-- a line for each row
pub text-lines : (n : ℕ) (p : List ℕ) → line_count (text_of n p) ≡ n
unfolding lines text_of line_count
text-lines zero p = refl
text-lines (suc n) p = omega (arith, count-append (line (take 80 p)) (lines (rows_of n (drop 80 p))), line-ends (take 80 p), text-lines n (drop 80 p))
