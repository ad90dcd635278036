-- What an edit makes of a page: each row after it, by the rows before it.
use Rattle.std.specs.Prelude.{Bool, true, false, cond, ◌&&◌, List, ◌++◌, map, ◌≡◌, ℕ, ◌+◌, ◌-◌, ◌*◌, ◌≤◌, ◌<◌, min, eqb, leb, ltb, length, get_or, take, drop, set, replicate}
use Rattle.std.proofs.Math.Seq.{paste}
use Rattle.cells.specs.declared.CellChange.{CellChange}
use Rattle.cells.specs.Cells.{blank, changed_by}
use Rattle.cells.specs.Rows.{joined, rows_of, nth}
use Rattle.cells.specs.Sets.{changed}
use Rattle.page.specs.declared.Edit.{Edit}
use Rattle.page.specs.declared.Edit.TheVariants.{Keep, Put, InsertCells, DeleteCells, ScrollUp, ScrollDown}
use Rattle.page.specs.declared.Edit.TheVariants.{FillRange, ChangeRange, FillRectangle, ChangeRectangle, CopyRectangle}

-- a range has its first place and not its end
abbrev pub in_range : ℕ → ℕ → ℕ → Bool
in_range a e k = leb a k && ltb k e

abbrev pub blank_row : List ℕ
blank_row = replicate 80 blank

-- ---- cells that move within a row x

-- from column a they go right by n, up to column e, and w enters
abbrev pub inserted : List ℕ → ℕ → ℕ → ℕ → ℕ → List ℕ
inserted x a e n w = take a x ++ replicate n w ++ take (e - a - n) (drop a x) ++ drop e x

-- they go left by n, down to column a, and blanks enter before column e
abbrev pub deleted : List ℕ → ℕ → ℕ → ℕ → List ℕ
deleted x a e n = take a x ++ take (e - a - n) (drop (a + n) x) ++ replicate n blank ++ drop e x

-- ---- rows that move

-- columns a to e of row x become as many of row y, from column c on
abbrev pub overlaid_from : List ℕ → ℕ → ℕ → List ℕ → ℕ → List ℕ
overlaid_from x a e y c = paste x a (drop c y) (e - a)

-- and those of row y
abbrev pub overlaid : List ℕ → ℕ → ℕ → List ℕ → List ℕ
overlaid x a e y = overlaid_from x a e y a

-- ---- columns a to e of row x that change by what they hold

abbrev pub changed_row : CellChange → List ℕ → ℕ → ℕ → List ℕ
changed_row m x a e = paste x a (map (changed_by m) (drop a x)) (e - a)

-- ---- a range of cells in reading order, seen from row k: the column where it begins there, and how many cells it has there

abbrev pub range_start : ℕ → ℕ → ℕ
range_start from k = min (from - 80 * k) 80

abbrev pub range_length : ℕ → ℕ → ℕ → ℕ
range_length from to k = min (to - 80 * k) 80 - range_start from k

-- ---- edits

-- what row k holds after an edit, where f gives what each row held before it
abbrev pub after : Edit → (ℕ → List ℕ) → ℕ → List ℕ
after Keep f k = f k
after (Put r c w) f k = cond (eqb k r) (set (f k) c w) (f k)
after (InsertCells r c e n w) f k = cond (eqb k r) (inserted (f k) c e n w) (f k)
after (DeleteCells r c e n) f k = cond (eqb k r) (deleted (f k) c e n) (f k)
after (ScrollUp t e a z n) f k = cond (in_range t e k) (overlaid (f k) a z (cond (ltb (k + n) e) (f (k + n)) blank_row)) (f k)
after (ScrollDown t e a z n) f k = cond (in_range t e k) (overlaid (f k) a z (cond (leb (t + n) k) (f (k - n)) blank_row)) (f k)
after (FillRange a z w) f k = let n = range_length a z k in paste (f k) (range_start a k) (replicate n w) n
after (ChangeRange a z m) f k = changed_row m (f k) (range_start a k) (range_start z k)
after (FillRectangle t e a z w) f k = cond (in_range t e k) (overlaid (f k) a z (replicate 80 w)) (f k)
after (ChangeRectangle t e a z m) f k = cond (in_range t e k) (changed_row m (f k) a z) (f k)
after (CopyRectangle t e a z r c) f k = cond (in_range t e k) (overlaid_from (f k) a z (f (k - t + r)) c) (f k)

-- the page of n rows after an edit
unfoldable pub applied : ℕ → Edit → List ℕ → List ℕ
applied n e p =
    let rs = rows_of n p in
    joined n (after e (nth rs))

-- ---- the cells that an edit may write

-- whether the cell in row k and column j is among them
abbrev pub target : Edit → ℕ → ℕ → Bool
target Keep k j = false
target (Put r c w) k j = eqb k r && eqb j c
target (InsertCells r c e n w) k j = eqb k r && in_range c e j
target (DeleteCells r c e n) k j = eqb k r && in_range c e j
target (ScrollUp t e a z n) k j = in_range t e k && in_range a z j
target (ScrollDown t e a z n) k j = in_range t e k && in_range a z j
target (FillRange a z w) k j = in_range a z (80 * k + j)
target (ChangeRange a z m) k j = in_range a z (80 * k + j)
target (FillRectangle t e a z w) k j = in_range t e k && in_range a z j
target (ChangeRectangle t e a z m) k j = in_range t e k && in_range a z j
target (CopyRectangle t e a z r c) k j = in_range t e k && in_range a z j

-- the word that it brings in; blank where that is a blank or none
abbrev pub entering : Edit → ℕ
entering Keep = blank
entering (Put r c w) = w
entering (InsertCells r c e n w) = w
entering (DeleteCells r c e n) = blank
entering (ScrollUp t e a z n) = blank
entering (ScrollDown t e a z n) = blank
entering (FillRange a z w) = w
entering (ChangeRange a z m) = blank
entering (FillRectangle t e a z w) = w
entering (ChangeRectangle t e a z m) = blank
entering (CopyRectangle t e a z r c) = blank

-- no edit at all
abbrev pub is_keep : Edit → Bool
is_keep Keep = true
is_keep (Put r c w) = false
is_keep (InsertCells r c e n w) = false
is_keep (DeleteCells r c e n) = false
is_keep (ScrollUp t e a z n) = false
is_keep (ScrollDown t e a z n) = false
is_keep (FillRange a z w) = false
is_keep (ChangeRange a z m) = false
is_keep (FillRectangle t e a z w) = false
is_keep (ChangeRectangle t e a z m) = false
is_keep (CopyRectangle t e a z r c) = false

-- ---- an edit that stays on a page of n rows

pub record CellsFit (n r c e k : ℕ) : Type 0 where
  pub row : r < n
  pub column : c < e
  pub end : e ≤ 80
  pub count : k ≤ e - c

pub record RowsFit (n t e a z k : ℕ) : Type 0 where
  pub top : t < e
  pub end : e ≤ n
  pub left : a ≤ z
  pub right : z ≤ 80
  pub count : k ≤ e - t

pub record RangeFits (n a z : ℕ) : Type 0 where
  pub start : a ≤ z
  pub end : z ≤ 80 * n

pub record RectangleFits (n t e a z : ℕ) : Type 0 where
  pub top : t ≤ e
  pub end : e ≤ n
  pub left : a ≤ z
  pub right : z ≤ 80

abbrev pub Within : ℕ → Edit → Type 0
Within n Keep = Unit {0}
Within n (Put r c w) = (r < n) × (c < 80)
Within n (InsertCells r c e k w) = CellsFit n r c e k
Within n (DeleteCells r c e k) = CellsFit n r c e k
Within n (ScrollUp t e a z k) = RowsFit n t e a z k
Within n (ScrollDown t e a z k) = RowsFit n t e a z k
Within n (FillRange a z w) = RangeFits n a z
Within n (ChangeRange a z m) = RangeFits n a z
Within n (FillRectangle t e a z w) = RectangleFits n t e a z
Within n (ChangeRectangle t e a z m) = RectangleFits n t e a z
Within n (CopyRectangle t e a z r c) = RectangleFits n t e a z × RectangleFits n r (r + (e - t)) c (c + (z - a))

-- ---- what is kept and what is reported when an edit takes a page p of n rows to q

pub record Faithful (n : ℕ) (e : Edit) (p q : List ℕ) : Type 0 where
  -- the length is kept
  pub long : length q ≡ length p
  -- each cell outside the edit's target keeps its word
  pub outside : (k c : ℕ) → k < n → c < 80 → target e k c ≡ false → get_or q (80 * k + c) 0 ≡ get_or p (80 * k + c) 0
  -- a row is reported exactly if one of its cells has another word
  pub reported : (k : ℕ) → k < n → changed p q k ≡ true → (c : ℕ) × (c < 80) × (get_or p (80 * k + c) 0 ≡ get_or q (80 * k + c) 0 → ⊥)
  pub differing : (k c : ℕ) → k < n → c < 80 → (get_or p (80 * k + c) 0 ≡ get_or q (80 * k + c) 0 → ⊥) → changed p q k ≡ true
