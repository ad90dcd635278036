use mathlib.Core.List.{map}
use lib.ListN.{drop}
use Rattle.cells.specs.Cells.{changed_by}
use native.Mathlib.Omega.{arith}
use Rattle.page.proofs.KnownRows.{over-or, over_nothing}
use Rattle.page.proofs.KnownBlocks.{over_none, range-next, range_all}
use Rattle.page.proofs.edits.change_range.Goals as goal

pub returns : goal.returns
returns c =
    let a = c.args in
    over_nothing (range_all (λ x n r. map (changed_by a.change) (drop x r)) a.from a.to c.loop-k.invariant (omega arith) (omega arith))

pub loop-k-init : goal.loop-k-init
loop-k-init c = search (over_none, arith)

pub loop-k-preserved : goal.loop-k-preserved
loop-k-preserved c = search (range-next, over-or, arith)
