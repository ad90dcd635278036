-- Asking for the changed rows: the set, how many rows are in it, the line's flag, and the state with the set emptied and the flag cleared.
use Rattle.std.specs.Prelude.{ℕ, Bool, false, cond, Result}
use Rattle.cells.specs.Sets.{size_of, has_bit}
use Rattle.steps.specs.declared.State.{State}
use Rattle.terminal.specs.declared.Asked.{Asked as Report}
use Rattle.terminal.specs.declared.Refused.{Refused}
use Rattle.terminal.specs.Answers.{Answer, Done, Broken, WrongSize, NoRoom, OffPage, number, answered, returned}
use Rattle.steps.specs.Whole.{whole_state}

-- the answer, the changed rows, how many they are, the line's flag, and the state
pub record Asked : Type 0 where
  pub answer : Answer
  pub rows : ℕ
  pub count : ℕ
  pub flag : Bool
  pub state : State

-- the answer's number, and the result
pub record Ask : Type 0 where
  pub number : ℕ
  pub result : Asked

-- given exactly when
abbrev pub ask_answer : State → Answer
ask_answer s = cond (whole_state s) Done Broken

abbrev pub ask_as : Answer → ℕ → ℕ → Bool → State → Ask
ask_as a rows count flag s = record { number = number a; result = record { answer = a; rows = rows; count = count; flag = flag; state = s } }

abbrev pub ask_done : State → Ask
ask_done s =
    let rows = s.tracked.changed in
    ask_as Done rows (size_of s.displays.core.rows (has_bit rows)) s.tracked.flag
    (record { displays = s.displays; tracked = record { changed = 0; flag = false } })

-- the empty set, 0, the flag unset, and the state as it came
abbrev pub ask_refused : Answer → State → Ask
ask_refused a s = ask_as a 0 0 false s

-- returned. Asking answers 0 or 1.
abbrev pub ask_gives : Answer → State → Ask
ask_gives Done s = ask_done s
ask_gives Broken s = ask_refused Broken s
ask_gives WrongSize s = ask_refused WrongSize s
ask_gives NoRoom s = ask_refused NoRoom s
ask_gives OffPage s = ask_refused OffPage s

unfoldable pub asked : State → Ask
asked s = ask_gives (ask_answer s) s

-- what was returned, as the definition has it
abbrev pub ask_told : Result Report (Refused Report) → Ask
ask_told r = let a = returned r in ask_as (answered r) a.rows a.count a.flag a.state
