-- 3F, the place and what closes the report are written one after the other.
use Rattle.ground.proofs.WriteLaws.{append-more}
use Rattle.device.proofs.sending.send_extended.Goals as goal

pub returns : goal.returns
returns c = append-more (append-more c.byte.ensures c.send_place.ensures) c.bytes.ensures
