use Rattle.std.proofs.Common.{arith}
use Rattle.probes.proofs.OutputLaws.{number-whole, number-less, number-done}
use Rattle.probes.proofs.output.put_number.Goals as goal

pub loop-preserved : goal.loop-preserved
loop-preserved c = number-less _ _ _ (omega arith) c.loop.invariant c.put.ensures

pub loop-init : goal.loop-init
loop-init c = number-whole _ c.args.n c.args.bytes

pub returns : goal.returns
returns c = number-done _ _ _ (omega arith) c.loop.invariant
