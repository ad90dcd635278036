-- Three fields are set, and the others stay.
use Rattle.std.proofs.Common.{rules}
use Rattle.record.specs.Record.{emptied}
use Rattle.record.proofs.from_state.emptied.Goals as goal

pub returns : goal.returns
unfolding emptied
returns c = search rules
