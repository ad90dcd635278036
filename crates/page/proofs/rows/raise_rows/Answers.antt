use mathlib.Core.Path.{ap₂}
use mathlib.Core.List.{List}
use mathlib.Core.Logic.{inr}
use Prim.Native.Nat.{ℕ, ◌+◌}
use native.Mathlib.Omega.{arith}
use Rattle.cells.specs.Rows.{row}
use Rattle.page.specs.Edits.{overlaid_from}
use Rattle.page.proofs.Blocks.{block-old}
use Rattle.page.proofs.KnownBlocks.{over_none, over-next, over-all}
use Rattle.page.proofs.rows.raise_rows.Goals as goal

pub loop-k-preserved : goal.loop-k-preserved
loop-k-preserved c =
    let a = c.args in
    let k : ℕ = c.loop-k.k in
    over-next c.loop-k.invariant
    {f = λ j. overlaid_from (row c.loop-k.page j) a.block.left a.block.right (row c.loop-k.page (k + a.count)) a.column} (omega arith)
    c.move_row-bits.ensures
    (λ old. ap₂ (λ (x y : List ℕ). overlaid_from x a.block.left a.block.right y a.column) old
    (block-old c.loop-k.invariant.2.redone (k + a.count) (inr (omega arith))))

pub loop-k-init : goal.loop-k-init
loop-k-init c = search (over_none, arith)

pub returns : goal.returns
returns c = search (over-all, arith)
