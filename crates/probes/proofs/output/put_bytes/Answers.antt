use Rattle.std.proofs.Common.{arith, drop_of_length-le}
use Rattle.probes.proofs.OutputLaws.{all-remains, none-remains, bytes-less}
use Rattle.probes.proofs.output.put_bytes.Goals as goal

pub loop-byte-preserved : goal.loop-byte-preserved
loop-byte-preserved c = bytes-less c.args.from.now c.loop-byte.byte-index (omega arith) c.loop-byte.invariant c.put.ensures

pub loop-byte-init : goal.loop-byte-init
loop-byte-init c = all-remains _ _

pub returns : goal.returns
returns c = none-remains (rw (drop_of_length-le c.args.from.now {i = c.loop-byte.byte-index} (omega arith)) at c.loop-byte.invariant)
