-- CSI and the body are written one after the other.
use Rattle.std.proofs.Common.{rules}
use Rattle.device.specs.ReplyBytes.{reply_bytes}
use Rattle.ground.proofs.WriteLaws.{append-more}
use Rattle.device.proofs.sending.send.Goals as goal

pub returns : goal.returns
unfolding reply_bytes
returns c = rw c.in-Some.is (search (rules, append-more c.send_csi.ensures c.send_body.ensures))
