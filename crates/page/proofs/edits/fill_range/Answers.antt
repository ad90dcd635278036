use lib.ListN.{replicate}
use native.Mathlib.Omega.{arith}
use Rattle.page.proofs.KnownBlocks.{over_none, range-next, range_all}
use Rattle.page.proofs.edits.fill_range.Goals as goal

pub returns : goal.returns
returns c =
    let a = c.args in
    range_all (λ x n r. replicate n a.word) a.from a.to c.loop-k.invariant (omega arith) (omega arith)

pub loop-k-init : goal.loop-k-init
loop-k-init c = search (over_none, arith)

pub loop-k-preserved : goal.loop-k-preserved
loop-k-preserved c = search (range-next, c.fill_row-bits.ensures, arith)
