-- Rows from `top` to `k` are done. The row that row k takes is not done yet, since the loop goes from the first row to the last and takes from below.
use Prim.Native.Nat.{◌+◌}
use Rattle.cells.specs.Rows.{row}
use Rattle.page.specs.Edits.{overlaid_from}
use Rattle.page.proofs.KnownBlocks.{UpwardOver}
use Rattle.page.proofs.rows.raise_rows.Given as goal

abbrev pub invariant-loop-k : goal.invariant-loop-k
invariant-loop-k l =
    UpwardOver l.block.top l.block.end l.initial.page (λ j. overlaid_from (row l.initial.page j) l.block.left l.block.right (row l.initial.page (j + l.count)) l.column) l.page l.known l.bits l.k
