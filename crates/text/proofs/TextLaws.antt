-- The text of a page, row by row, and how long it is at most.
use mathlib.Core.Path.{◌≡◌, refl, ap, ◌∙◌}
use mathlib.Core.List.{List, [], ◌∷◌, ◌++◌, append-nil, append_assoc, map}
use Prim.Native.Nat.{ℕ, zero, suc, ◌+◌, ◌*◌, ◌/◌, ◌≤◌, ◌<◌}
use native.Mathlib.Numerals.{add-one}
use native.Mathlib.Omega.{arith}
use lib.ListN.{length, take, drop, length-append, length-take}
use lib.Seq.{sets, drop-drop}
use borrow.Author.Tests.{le-leb, lt-leb}
use Rattle.cells.specs.Rows.{row, rows_of}
use Rattle.std.specs.Prelude.{Ok, Err}
use Rattle.text.specs.Text.{sign, trimmed, encoded, line, lines, text_of, page_text, write_as, written}
use Rattle.text.proofs.Trimming.{trimmed-within}
use Rattle.text.proofs.Encoding.{encoded-short}

-- ---- a line

pub line-length : (r : List ℕ) → length (line r) ≡ length (encoded (trimmed (map sign r))) + 1
line-length r = length-append (encoded (trimmed (map sign r))) (0x0A ∷ [])

pub line-short : (r : List ℕ) → length (line r) ≤ 3 * length r + 1
line-short r = omega (arith, line-length r, encoded-short (trimmed (map sign r)), trimmed-within r)

-- ---- one row more

rows_more : (n : ℕ) (p : List ℕ) → rows_of (suc n) p ≡ rows_of n p ++ (row p n ∷ [])
rows_more zero p = refl
rows_more (suc n) p =
    let next : 80 + 80 * n ≡ 80 * suc n = omega arith in
    rw (rows_more n (drop 80 p), drop-drop (80 * n) 80 p, next)

lines_more : (rs : List (List ℕ)) (r : List ℕ) → lines (rs ++ (r ∷ [])) ≡ lines rs ++ line r
unfolding lines
lines_more [] r = append-nil (line r)
lines_more (s ∷ rs) r = rw (lines_more rs r, append_assoc (line s))

pub text-more : (n : ℕ) (p : List ℕ) → text_of (n + 1) p ≡ text_of n p ++ line (row p n)
unfolding text_of
text-more n p = rw add-one (ap lines (rows_more n p) ∙ lines_more (rows_of n p) (row p n))

pub text-more-length : (n : ℕ) (p : List ℕ) → length (text_of (n + 1) p) ≡ length (text_of n p) + length (line (row p n))
text-more-length n p = ap length (text-more n p) ∙ length-append (text_of n p) (line (row p n))

-- ---- lengths

-- the first rows take no more than all
pub text-part : (k n : ℕ) (p : List ℕ) → k ≤ n → length (text_of k p) ≤ length (text_of n p)
unfolding lines text_of
text-part zero n p h = omega arith
text-part (suc k) zero p h = absurd (omega arith)
text-part (suc k) (suc n) p h = simp length-append (omega (arith, text-part k n (drop 80 p) (omega arith)))

-- a row takes at most three bytes a cell, and 0A
pub text-short : (n : ℕ) (p : List ℕ) → length (text_of n p) ≤ 80 * 3 * n + n
unfolding lines text_of
text-short zero p = omega arith
text-short (suc n) p =
    omega (arith, text-short n (drop 80 p), line-short (take 80 p), length-take 80 p, length-append (line (take 80 p)) (lines (rows_of n (drop 80 p))))

-- ---- writing it

module _ (p o : List ℕ) where
  pub written-whole : length (page_text p) ≤ length o → written p o ≡ write_as (Ok (length (page_text p))) (sets o 0 (page_text p))
  unfolding written
  written-whole h = rw (le-leb (length (page_text p)) (length o) h)

  pub written_none : length o < length (page_text p) → written p o ≡ write_as (Err (record {})) o
  unfolding written
  written_none h = rw (lt-leb (length (page_text p)) (length o) h)

-- ---- a page of n rows

pub page-text : (n : ℕ) (p : List ℕ) → length p ≡ 80 * n → page_text p ≡ text_of n p
page-text n p h = let e : length p / 80 ≡ n = omega arith in rw e

-- a buffer of 241 bytes a row always holds it: 5,784 bytes for 24 rows
pub always-whole : (n : ℕ) (p o : List ℕ) → length p ≡ 80 * n → 80 * 3 * n + n ≤ length o
    → written p o ≡ write_as (Ok (length (text_of n p))) (sets o 0 (text_of n p))
always-whole n p o h room =
    let e = page-text n p h in
    written-whole p o (omega (arith, ap length e, text-short n p)) ∙ rw e
