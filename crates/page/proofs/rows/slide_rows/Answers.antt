use mathlib.Core.Path.{ap}
use mathlib.Core.List.{List}
use Prim.Native.Nat.{ℕ}
use native.Mathlib.Omega.{arith}
use Rattle.cells.specs.Rows.{row}
use Rattle.page.specs.Edits.{overlaid_from}
use Rattle.page.proofs.KnownRows.{over-or, over_nothing}
use Rattle.page.proofs.KnownBlocks.{over_none, over-next, over-all}
use Rattle.page.proofs.rows.slide_rows.Goals as goal

pub loop-k-preserved : goal.loop-k-preserved
loop-k-preserved c =
    let a = c.args in
    let k : ℕ = c.loop-k.k in
    over-next c.loop-k.invariant
    {f = λ j. overlaid_from (row c.loop-k.page j) a.block.left a.block.right (row c.loop-k.page k) a.column} (omega arith) (over-or c.slide_row-bits.ensures c.loop-k.bits)
    (ap (λ (x : List ℕ). overlaid_from x a.block.left a.block.right x a.column))

pub loop-k-init : goal.loop-k-init
loop-k-init c = search (over_none, arith)

pub returns : goal.returns
returns c = over_nothing (over-all c.loop-k.invariant (omega arith))
