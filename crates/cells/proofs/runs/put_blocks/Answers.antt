use native.Mathlib.Omega.{arith}
use Rattle.cells.proofs.Putting.{put-join}
use Rattle.cells.proofs.runs.put_blocks.Goals as goal

pub loop-k-preserved : goal.loop-k-preserved
loop-k-preserved c =
    (omega arith, omega arith, put-join (omega arith) (omega arith) c.loop-k.invariant.2 c.put_block-changed.ensures)
