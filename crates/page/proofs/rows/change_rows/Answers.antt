use mathlib.Core.Path.{ap}
use mathlib.Core.List.{List}
use Prim.Native.Nat.{ℕ}
use native.Mathlib.Omega.{arith}
use Rattle.cells.specs.Rows.{row}
use Rattle.page.specs.Edits.{changed_row}
use Rattle.page.proofs.KnownRows.{over-or, over_nothing}
use Rattle.page.proofs.KnownBlocks.{over_none, over-next, over-all}
use Rattle.page.proofs.rows.change_rows.Goals as goal

pub loop-k-preserved : goal.loop-k-preserved
loop-k-preserved c =
    let a = c.args in
    over-next c.loop-k.invariant {f = λ j. changed_row a.change (row c.loop-k.page j) a.block.left a.block.right} (omega arith) (over-or c.change_row-bits.ensures c.loop-k.bits)
    (ap (λ (x : List ℕ). changed_row a.change x a.block.left a.block.right))

pub loop-k-init : goal.loop-k-init
loop-k-init c = search (over_none, arith)

pub returns : goal.returns
returns c = over_nothing (over-all c.loop-k.invariant (omega arith))
