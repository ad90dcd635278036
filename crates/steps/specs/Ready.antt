-- What the contracts of a feeding's parts ask.
use Rattle.std.specs.Prelude.{◌≡◌, ℕ, ◌*◌, List, length}
use Rattle.core_state.specs.declared.Core.{Core}
use Rattle.core_state.specs.declared.StatusLine.{StatusLine}
use Rattle.core_state.specs.Whole.{Whole}
use Rattle.steps.specs.declared.State.{State}
use Rattle.steps.specs.declared.Tracked.{Tracked}
use Rattle.steps.specs.Whole.{WholeState}

-- a whole core on a page of any number of rows, and a page of so many
pub record Paged (c : Core) (p : List ℕ) : Type 0 where
  pub whole : Whole c
  pub size : length p ≡ 80 * c.rows

-- a whole state, and a page of its size
pub record Ready (s : State) (p : List ℕ) : Type 0 where
  pub whole : WholeState s
  pub size : length p ≡ 80 * s.displays.core.rows

-- a state of these parts
abbrev pub state_from : Core → StatusLine → Tracked → State
state_from c l t = record { displays = record { core = c; line = l }; tracked = t }
