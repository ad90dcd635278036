-- Each field is its callee's, or is copied.
use Rattle.record.specs.Record.{core_of}
use Rattle.record.proofs.to_state.core_of.Goals as goal

pub returns : goal.returns
unfolding core_of
returns c = cc
