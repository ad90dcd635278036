-- `&` with the column's bit reads it.
use Rattle.device.proofs.TabLaws.{bit_read}
use Rattle.device.proofs.tabs.Tabs.get.Goals as goal

pub returns : goal.returns
returns c = rw (c.flag_of-at.ensures.byte, c.flag_of-at.ensures.bit) (bit_read _ _)
