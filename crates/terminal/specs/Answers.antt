-- What a call answers (SCOPE 2), and what a refusal and the tests before a call stand for.
use Rattle.std.specs.Prelude.{ℕ, Bool, true, false, cond, List, codes, Result, Ok, Err}
use Rattle.terminal.specs.declared.Refusal.{Refusal}
use Rattle.terminal.specs.declared.Refusal.TheVariants as R
use Rattle.terminal.specs.declared.Refused.{Refused}
use Rattle.steps.specs.declared.State.{State}
use Rattle.steps.specs.Steps.{Buffers}
use Rattle.steps.specs.Whole.{whole_state, right_sizes}

-- `NoRoom` is no refusal: a reply did not fit, and what was read and sent before it counts
pub data Answer : Type 0 where
  Done : Answer
  Broken : Answer
  WrongSize : Answer
  NoRoom : Answer
  OffPage : Answer

-- the numbers of SCOPE 2.1 to 2.5; a start answers `Broken` for another R than 24, 36 and 48
abbrev pub number : Answer → ℕ
number Done = 0
number Broken = 1
number WrongSize = 2
number NoRoom = 3
number OffPage = 4

-- 1, 2 and 4 are refusals
abbrev pub refusal : Answer → Bool
refusal Done = false
refusal Broken = true
refusal WrongSize = true
refusal NoRoom = false
refusal OffPage = true

-- the answer that a refusal is
abbrev pub answer_of : Refusal → Answer
answer_of R.Broken = Broken
answer_of R.WrongSize = WrongSize
answer_of R.OffPage = OffPage

-- a refusal in words
abbrev pub words : Refusal → List ℕ
words R.Broken = codes "the state is not whole"
words R.WrongSize = codes "page or line is of another length"
words R.OffPage = codes "there is no such row or cell"

-- the answer of a call that is no feeding
abbrev pub answered : {T : Type 0} → Result T (Refused T) → Answer
answered (Ok x) = Done
answered (Err e) = answer_of e.refusal

-- what a call returns, refused or not
abbrev pub returned : {T : Type 0} → Result T (Refused T) → T
returned (Ok x) = x
returned (Err e) = e.returned

-- ---- the tests before a call

abbrev pub whole_checked : State → Result Unit Refusal
whole_checked s = cond (whole_state s) (Ok tt) (Err R.Broken)

-- page and line of so many rows
abbrev pub sizes_checked : ℕ → Buffers → Result Unit Refusal
sizes_checked r p = cond (right_sizes r p) (Ok tt) (Err R.WrongSize)

-- a whole state first, then page and line of its size
abbrev pub checked : State → Buffers → Result Unit Refusal
checked s p = cond (whole_state s) (sizes_checked s.displays.core.rows p) (Err R.Broken)
