-- Starting: every cell of page and line blank, and the state fresh. Refused, it returns the fresh 24-row state and leaves both.
use Rattle.std.specs.Prelude.{ℕ, ◌*◌, cond, List, replicate, Result}
use Rattle.cells.specs.Cells.{blank}
use Rattle.core_state.specs.Whole.{sized}
use Rattle.core_state.specs.Fresh.{fresh_core}
use Rattle.core_state.specs.StatusLine.{fresh_line}
use Rattle.steps.specs.declared.State.{State}
use Rattle.terminal.specs.declared.Refused.{Refused}
use Rattle.terminal.specs.Answers.{Answer, Done, Broken, WrongSize, NoRoom, OffPage, number, answered, returned}
use Rattle.steps.specs.Steps.{nothing_tracked, Buffers, buffers}
use Rattle.steps.specs.Whole.{right_sizes}

abbrev pub fresh : ℕ → State
fresh r = record { displays = record { core = fresh_core r; line = fresh_line }; tracked = nothing_tracked }

abbrev pub blank_page : ℕ → List ℕ
blank_page r = replicate (80 * r) blank

abbrev pub blank_buffers : ℕ → Buffers
blank_buffers r = buffers (blank_page r) (blank_page 1)

-- the answer, and the state that a start begins with
pub record Started : Type 0 where
  pub answer : Answer
  pub state : State

-- the answer's number, the result, and what is left in page and line
pub record Start : Type 0 where
  pub number : ℕ
  pub result : Started
  pub buffers : Buffers

-- given exactly when
abbrev pub start_answer : ℕ → Buffers → Answer
start_answer r p = cond (sized r) (cond (right_sizes r p) Done WrongSize) Broken

abbrev pub start_as : Answer → State → Buffers → Start
start_as a s p = record { number = number a; result = record { answer = a; state = s }; buffers = p }

abbrev pub start_refused : Answer → Buffers → Start
start_refused a p = start_as a (fresh 24) p

-- returned and left. A start gives no other answers.
abbrev pub start_gives : Answer → ℕ → Buffers → Start
start_gives Done r p = start_as Done (fresh r) (blank_buffers r)
start_gives Broken r p = start_refused Broken p
start_gives WrongSize r p = start_refused WrongSize p
start_gives NoRoom r p = start_refused NoRoom p
start_gives OffPage r p = start_refused OffPage p

unfoldable pub started : ℕ → Buffers → Start
started r p = start_gives (start_answer r p) r p

-- what was returned, and what is left in page and line, as the definition has it
abbrev pub start_told : Result State (Refused State) → Buffers → Start
start_told r q = start_as (answered r) (returned r) q
