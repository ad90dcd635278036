-- The place and 52 are written one after the other.
use Rattle.ground.proofs.WriteLaws.{append-more}
use Rattle.device.proofs.sending.send_position.Goals as goal

pub returns : goal.returns
returns c = search append-more
