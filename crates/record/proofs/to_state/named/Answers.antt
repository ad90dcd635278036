-- Its parts are its callees'.
use Rattle.record.specs.Record.{named}
use Rattle.record.proofs.to_state.named.Goals as goal

pub returns : goal.returns
unfolding named
returns c = cc
