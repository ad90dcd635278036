-- Reading the cursor: its row and column on the page, counted from 1, whatever origin mode says, whether a wrap is due, and whether it is
-- shown. Refused, row 0 and column 0, and neither.
use Rattle.std.specs.Prelude.{ℕ, Bool, false, cond, Result}
use Rattle.steps.specs.declared.State.{State}
use Rattle.terminal.specs.declared.CursorRead.{CursorRead as CursorFound}
use Rattle.terminal.specs.declared.Refused.{Refused}
use Rattle.terminal.specs.Answers.{Answer, Done, Broken, WrongSize, NoRoom, OffPage, number, answered, returned}
use Rattle.steps.specs.Whole.{whole_state}

-- the answer, and what is told of the cursor
pub record CursorRead : Type 0 where
  pub answer : Answer
  pub row : ℕ
  pub column : ℕ
  pub wrap : Bool
  pub shown : Bool

-- the answer's number, and the result
pub record CursorReading : Type 0 where
  pub number : ℕ
  pub result : CursorRead

-- given exactly when
abbrev pub cursor_answer : State → Answer
cursor_answer s = cond (whole_state s) Done Broken

abbrev pub cursor_as : Answer → ℕ → ℕ → Bool → Bool → CursorReading
cursor_as a row column wrap shown = record { number = number a; result = record { answer = a; row = row; column = column; wrap = wrap; shown = shown } }

abbrev pub cursor_done : State → CursorReading
cursor_done s =
    cursor_as Done s.displays.core.cursor.row s.displays.core.cursor.column s.displays.core.cursor.wrap
    s.displays.core.modes.shown

abbrev pub cursor_refused : Answer → CursorReading
cursor_refused a = cursor_as a 0 0 false false

-- returned. Reading the cursor answers 0 or 1.
abbrev pub cursor_gives : Answer → State → CursorReading
cursor_gives Done s = cursor_done s
cursor_gives Broken s = cursor_refused Broken
cursor_gives WrongSize s = cursor_refused WrongSize
cursor_gives NoRoom s = cursor_refused NoRoom
cursor_gives OffPage s = cursor_refused OffPage

unfoldable pub cursor_read : State → CursorReading
cursor_read s = cursor_gives (cursor_answer s) s

-- what was returned, as the definition has it
abbrev pub cursor_told : Result CursorFound (Refused CursorFound) → CursorReading
cursor_told r = let c = returned r in cursor_as (answered r) c.row c.column c.wrap c.shown
