use mathlib.Core.Path.{ap, ◌∙◌}
use mathlib.Core.List.{List}
use Prim.Native.Nat.{ℕ, ◌-◌}
use native.Mathlib.Omega.{arith}
use lib.ListN.{replicate}
use lib.Seq.{paste}
use Rattle.cells.specs.Rows.{row}
use Rattle.page.specs.Edits.{overlaid}
use Rattle.page.proofs.Blocks.{filled_row}
use Rattle.page.proofs.KnownBlocks.{over_none, over-next, over-all}
use Rattle.page.proofs.rows.fill_rows.Goals as goal

pub loop-k-preserved : goal.loop-k-preserved
loop-k-preserved c =
    let a = c.args in
    let w : ℕ = a.word in
    over-next c.loop-k.invariant
    {f = λ j. paste (row c.loop-k.page j) a.block.left (replicate (a.block.right - a.block.left) w) (a.block.right - a.block.left)} (omega arith) c.fill_row-bits.ensures
    (λ old. filled_row (row c.loop-k.page c.loop-k.k) a.block.left a.block.right w (omega arith)
    ∙ ap (λ (x : List ℕ). overlaid x a.block.left a.block.right (replicate 80 w)) old)

pub loop-k-init : goal.loop-k-init
loop-k-init c = search (over_none, arith)

pub returns : goal.returns
returns c = search (over-all, arith)
