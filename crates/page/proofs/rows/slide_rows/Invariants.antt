-- Rows from `top` to `k` are done.
use Rattle.cells.specs.Rows.{row}
use Rattle.page.specs.Edits.{overlaid_from}
use Rattle.page.proofs.KnownBlocks.{UpwardOver}
use Rattle.page.proofs.rows.slide_rows.Given as goal

abbrev pub invariant-loop-k : goal.invariant-loop-k
invariant-loop-k l =
    UpwardOver l.block.top l.block.end l.initial.page (λ j. overlaid_from (row l.initial.page j) l.block.left l.block.right (row l.initial.page j) l.column) l.page 0 l.bits l.k
