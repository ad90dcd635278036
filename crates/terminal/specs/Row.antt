-- Reading a row of whichever display is active: its 80 cells. Refused, no cell.
use Rattle.std.specs.Prelude.{ℕ, ◌-◌, cond, List, [], Result}
use Rattle.std.specs.Borrow.{Bor}
use Rattle.cells.specs.Rows.{row}
use Rattle.ground.specs.Tests.{between}
use Rattle.steps.specs.declared.State.{State}
use Rattle.terminal.specs.declared.Refused.{Refused}
use Rattle.terminal.specs.Answers.{Answer, Done, Broken, WrongSize, NoRoom, OffPage, number, answered, returned}
use Rattle.steps.specs.Steps.{Buffers}
use Rattle.steps.specs.Whole.{whole_state, right_sizes}

-- the answer's number, and the cells that are handed back
pub record RowRead : Type 0 where
  pub number : ℕ
  pub cells : List ℕ

-- how many rows the active display has, and its cells
abbrev pub active_rows : State → ℕ
active_rows s = cond s.displays.line.active 1 s.displays.core.rows

abbrev pub active_cells : State → Buffers → List ℕ
active_cells s p = cond s.displays.line.active p.line p.page

-- given exactly when
abbrev pub row_answer : State → Buffers → ℕ → Answer
row_answer s p r =
    cond (whole_state s)
    (cond (right_sizes s.displays.core.rows p) (cond (between 1 r (active_rows s)) Done OffPage) WrongSize)
    Broken

-- the cells. Reading a row does not answer 3.
abbrev pub row_cells : Answer → State → Buffers → ℕ → List ℕ
row_cells Done s p r = row (active_cells s p) (r - 1)
row_cells Broken s p r = []
row_cells WrongSize s p r = []
row_cells NoRoom s p r = []
row_cells OffPage s p r = []

abbrev pub row_gives : Answer → State → Buffers → ℕ → RowRead
row_gives a s p r = record { number = number a; cells = row_cells a s p r }

unfoldable pub row_read : State → Buffers → ℕ → RowRead
row_read s p r = row_gives (row_answer s p r) s p r

-- what was returned, as the definition has it
abbrev pub row_told : Result (Bor (List ℕ)) (Refused (Bor (List ℕ))) → RowRead
row_told r = record { number = number (answered r); cells = (returned r).now }
