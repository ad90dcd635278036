-- The bounds that the code's arithmetic needs, on a page of any number of rows: the part of `Whole` that an edit of the parser keeps.
use Rattle.std.specs.Prelude.{ℕ, ◌<◌, ◌≤◌}
use Rattle.core_state.specs.declared.Core.{Core}
use Rattle.core_state.specs.declared.Margins.{Margins}

pub record Rows (rows : ℕ) : Type 0 where
  pub low : 1 ≤ rows
  pub high : rows ≤ 48

pub record OnPage (rows row column : ℕ) : Type 0 where
  pub row_low : 1 ≤ row
  pub row-high : row ≤ rows
  pub column-low : 1 ≤ column
  pub column-high : column ≤ 80

-- a page of one row has that row between its margins
pub record Scrolls (rows : ℕ) (m : Margins) : Type 0 where
  pub low : 1 ≤ m.top
  pub ordered : m.top ≤ m.bottom
  pub high : m.bottom ≤ rows
  pub some : 1 < rows → m.top < m.bottom

-- over the parts that they speak of, so that a change of another leaves them as they are
pub record Bounded (rows row column : ℕ) (m : Margins) : Type 0 where
  pub count : Rows rows
  pub cursor : OnPage rows row column
  pub margins : Scrolls rows m

abbrev pub Bounds : Core → Type 0
Bounds c = Bounded c.rows c.cursor.row c.cursor.column c.margins
