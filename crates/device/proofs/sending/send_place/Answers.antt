-- The row, 3B and the column are written one after the other.
use Rattle.ground.proofs.WriteLaws.{append-more}
use Rattle.device.proofs.sending.send_place.Goals as goal

pub returns : goal.returns
returns c = search append-more
