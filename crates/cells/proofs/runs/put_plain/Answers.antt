-- The block, if it is plain, is put after those that were put.
use native.Mathlib.Omega.{arith}
use Rattle.cells.proofs.Putting.{put-join}
use Rattle.cells.proofs.runs.put_plain.Goals as goal

pub returns : goal.returns
returns c =
    (omega arith, put-join (omega arith) (omega arith) c.put_blocks-blocks.ensures.1 c.put_block-changed.ensures)
