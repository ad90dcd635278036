-- Done, the record is that of the state returned.
use Rattle.pankholim.proofs.CallLaws.{start-done}
use Rattle.pankholim.proofs.pankholim_start.Goals as goal

pub returns-in-Ok : goal.returns-in-Ok
returns-in-Ok c = rw c.record_of.ensures (start-done c.args.terminal.now c.args.rows _ _ _ c.in-Ok.ensures)
