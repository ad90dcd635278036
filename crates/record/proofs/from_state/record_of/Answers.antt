-- Each field is its callee's, or is copied.
use Rattle.record.specs.Record.{record_of}
use Rattle.record.proofs.from_state.record_of.Goals as goal

pub returns : goal.returns
unfolding record_of
returns c = cc
