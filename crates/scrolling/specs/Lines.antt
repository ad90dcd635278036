-- Text in the last row of rows that scroll, byte by byte, and the same with the scrolls done before. Rows are counted from 0, columns from 1.
use Rattle.std.specs.Prelude.{◌≡◌, Bool, true, cond, ◌&&◌, List, ℕ, zero, suc, ◌+◌, ◌-◌, ◌*◌, ◌≤◌, ◌<◌, min, eqb, length}
use Rattle.ground.specs.Folds.{folded}
use Rattle.cells.specs.declared.runs.Pen.{Pen}
use Rattle.cells.specs.Runs.{pen_word, PenFits}
use Rattle.cells.specs.Sets.{has_bit}
use Rattle.page.specs.declared.Edit.TheVariants.{Put, ScrollUp}
use Rattle.page.specs.Edits.{applied}
use Rattle.scrolling.specs.declared.ahead.Ahead.{Ahead}
use Rattle.scrolling.specs.declared.region.Region.{Region}

-- ---- one scroll for each line feed

-- a page and the column where the next character goes
pub record Lines : Type 0 where
  pub page : List ℕ
  pub column : ℕ

-- one byte of text in the last row of rows t to e of a page of n rows, autowrap off: CR, LF (column 1 in newline mode, and the rows
-- scroll up), a character (put; then the next column, 80 at most)
unfoldable pub line_byte : ℕ → ℕ → ℕ → Bool → Pen → Lines → ℕ → Lines
line_byte n t e newline pen s b =
    cond (eqb b 0x0D) (record { page = s.page; column = 1 })
    (cond (eqb b 0x0A) (record { page = applied n (ScrollUp t e 0 80 1) s.page; column = cond newline 1 s.column })
    (record { page = applied n (Put (e - 1) (s.column - 1) (pen_word pen b)) s.page; column = min (s.column + 1) 80 }))

-- one after the other
unfoldable pub lines_over : ℕ → ℕ → ℕ → Bool → Pen → Lines → List ℕ → Lines
lines_over n t e newline pen s bytes = folded (line_byte n t e newline pen) s bytes

-- ---- no scroll: each line goes into the row below

pub record Written : Type 0 where
  pub page : List ℕ
  pub row : ℕ
  pub column : ℕ

unfoldable pub write_byte : ℕ → Bool → Pen → Written → ℕ → Written
write_byte n newline pen s b =
    cond (eqb b 0x0D) (record { page = s.page; row = s.row; column = 1 })
    (cond (eqb b 0x0A) (record { page = s.page; row = s.row + 1; column = cond newline 1 s.column })
    (record { page = applied n (Put s.row (s.column - 1) (pen_word pen b)) s.page; row = s.row; column = min (s.column + 1) 80 }))

unfoldable pub written_over : ℕ → Bool → Pen → Written → List ℕ → Written
written_over n newline pen s bytes = folded (write_byte n newline pen) s bytes

-- ---- rows that are known to have changed

-- the `count` rows from `top` on are among the bits
unfoldable pub all_known : ℕ → ℕ → ℕ → Bool
all_known known top zero = true
all_known known top (suc count) = has_bit known (top + count) && all_known known top count

-- ---- what the functions promise and ask

-- page and column are those after the text
pub record LinesWritten (w : Written) (q : List ℕ) (c : ℕ) : Type 0 where
  pub page : q ≡ w.page
  pub column : c ≡ w.column

-- text that follows a line feed in column c of a region's last row
pub record LinesFit (r : Region) (p : List ℕ) (c : ℕ) (pen : Pen) (a : Ahead) : Type 0 where
  pub long : length p ≡ 80 * r.rows
  pub room : r.top + a.feeds < r.end
  pub left : 1 ≤ c
  pub right : c ≤ 80
  pub fits : PenFits pen
