-- What feeding all of an input leaves.
use Rattle.std.specs.Prelude.{◌≡◌, ℕ, List}
use Rattle.steps.specs.declared.State.{State}
use Rattle.steps.specs.Steps.{Buffers, ran, screen}
use Rattle.steps.specs.Ready.{Ready}

-- state, page and line are those of the run over the input, and state and page whole again
pub record RanOver (s : State) (p : Buffers) (input : List ℕ) (s' : State) (p' : Buffers) : Type 0 where
  pub screen-is : screen s' p' ≡ ran (screen s p) input
  pub ready : Ready s' p'.page
