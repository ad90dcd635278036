-- Reading a cell by its row and column, counted from 1. Refused, a blank one.
use Rattle.std.specs.Prelude.{ℕ, ◌+◌, ◌-◌, ◌*◌, Bool, cond, ◌&&◌, List, slice_index, Result}
use Rattle.cells.specs.Cells.{blank}
use Rattle.ground.specs.Tests.{between}
use Rattle.steps.specs.declared.State.{State}
use Rattle.terminal.specs.declared.Refused.{Refused}
use Rattle.terminal.specs.Answers.{Answer, Done, Broken, WrongSize, NoRoom, OffPage, number, answered, returned}
use Rattle.steps.specs.Whole.{whole_state, right_size}

abbrev pub on_page : ℕ → ℕ → ℕ → Bool
on_page rows r c = between 1 r rows && between 1 c 80

abbrev pub cell_at : List ℕ → ℕ → ℕ → ℕ
cell_at p r c = slice_index p (80 * (r - 1) + (c - 1))

-- the answer, and the word of the cell
pub record CellRead : Type 0 where
  pub answer : Answer
  pub word : ℕ

-- the answer's number, and the result
pub record Read : Type 0 where
  pub number : ℕ
  pub result : CellRead

-- given for a whole state of so many rows
abbrev pub page_answer : ℕ → List ℕ → ℕ → ℕ → Answer
page_answer rows p r c = cond (right_size rows p) (cond (on_page rows r c) Done OffPage) WrongSize

-- given exactly when
abbrev pub read_answer : State → List ℕ → ℕ → ℕ → Answer
read_answer s p r c =
    cond (whole_state s)
    (cond (right_size s.displays.core.rows p) (cond (on_page s.displays.core.rows r c) Done OffPage) WrongSize)
    Broken

-- the word that is returned. Reading a cell does not answer 3.
abbrev pub read_word : Answer → List ℕ → ℕ → ℕ → ℕ
read_word Done p r c = cell_at p r c
read_word Broken p r c = blank
read_word WrongSize p r c = blank
read_word NoRoom p r c = blank
read_word OffPage p r c = blank

-- returned
abbrev pub read_gives : Answer → List ℕ → ℕ → ℕ → Read
read_gives a p r c = record { number = number a; result = record { answer = a; word = read_word a p r c } }

unfoldable pub cell_read : State → List ℕ → ℕ → ℕ → Read
cell_read s p r c = read_gives (read_answer s p r c) p r c

-- what was returned, as the definition has it
abbrev pub read_told : Result ℕ (Refused ℕ) → Read
read_told r = record { number = number (answered r); result = record { answer = answered r; word = returned r } }
