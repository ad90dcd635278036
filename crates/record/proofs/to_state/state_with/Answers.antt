-- Each part is its callee's, or is copied.
use Rattle.record.specs.Record.{state_with}
use Rattle.record.proofs.to_state.state_with.Goals as goal

pub returns : goal.returns
unfolding state_with
returns c = cc
