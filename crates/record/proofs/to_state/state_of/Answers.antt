-- The rows are the definition's choice.
use Rattle.record.specs.Record.{state_of, state_with}
use Rattle.record.proofs.to_state.state_of.Goals as goal

pub returns : goal.returns
unfolding state_of state_with
returns c = rw (c.state_with.ensures, c.pick.ensures, c.named.ensures)
