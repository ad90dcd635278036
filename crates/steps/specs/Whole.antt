-- A whole state (SCOPE 1.9 to 1.18, 1.28 to 1.30), and a page and a line of its size.
use Rattle.std.specs.Prelude.{◌≡◌, ℕ, ◌*◌, ◌^◌, ◌<◌, Bool, true, ◌&&◌, List, length, ◌==◌, nat_lt}
use Rattle.core_state.specs.Whole.{sized, whole_displays, WholeDisplays}
use Rattle.steps.specs.declared.State.{State}
use Rattle.steps.specs.Steps.{Buffers}

-- no changed row above R
unfoldable pub whole_state : State → Bool
whole_state s = whole_displays s.displays && nat_lt s.tracked.changed (2 ^ s.displays.core.rows)

-- the same, a fact for each clause
pub record WholeState (s : State) : Type 0 where
  pub displays : WholeDisplays s.displays
  pub size : sized s.displays.core.rows ≡ true
  pub changed : s.tracked.changed < 2 ^ s.displays.core.rows

-- the page's cell count is 80 × R
abbrev pub right_size : ℕ → List ℕ → Bool
right_size rows p = length p == 80 * rows

-- and the line's is 80
abbrev pub right_sizes : ℕ → Buffers → Bool
right_sizes rows p = right_size rows p.page && right_size 1 p.line
