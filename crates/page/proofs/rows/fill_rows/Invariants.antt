-- Rows from `top` to `k` are done.
use lib.ListN.{replicate}
use Rattle.cells.specs.Rows.{row}
use Rattle.page.specs.Edits.{overlaid}
use Rattle.page.proofs.KnownBlocks.{UpwardOver}
use Rattle.page.proofs.rows.fill_rows.Given as goal

abbrev pub invariant-loop-k : goal.invariant-loop-k
invariant-loop-k l =
    UpwardOver l.block.top l.block.end l.initial.page (λ j. overlaid (row l.initial.page j) l.block.left l.block.right (replicate 80 l.word)) l.page l.known l.bits l.k
