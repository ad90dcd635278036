-- Each way takes the rows of the other rectangle in turn, and none that was written before.
use Prim.Native.Nat.{◌+◌, ◌-◌}
use native.Mathlib.Omega.{arith}
use Rattle.page.proofs.Blocks.{block-copied}
use Rattle.page.proofs.KnownRows.{over_nothing}
use Rattle.page.proofs.edits.copy_rectangle.Goals as goal

pub returns-then-block-row : goal.returns-then-block-row
returns-then-block-row c =
    let a = c.args in
    block-copied a.block.left a.block.right a.row a.column (λ j. j) (λ j l h. omega arith) c.slide_rows.ensures

pub returns-then-block-row-2 : goal.returns-then-block-row-2
returns-then-block-row-2 c =
    let a = c.args in
    block-copied a.block.left a.block.right a.row a.column (λ j. j + (a.row - a.block.top)) (λ j l h. omega arith)
    (over_nothing c.raise_rows.ensures)

pub returns : goal.returns
returns c =
    let a = c.args in
    block-copied a.block.left a.block.right a.row a.column (λ j. j - (a.block.top - a.row)) (λ j l h. omega arith)
    (over_nothing c.lower_rows.ensures)
