-- Rows from `top` to `k` are done.
use Rattle.cells.specs.Rows.{row}
use Rattle.page.specs.Edits.{changed_row}
use Rattle.page.proofs.KnownBlocks.{UpwardOver}
use Rattle.page.proofs.rows.change_rows.Given as goal

abbrev pub invariant-loop-k : goal.invariant-loop-k
invariant-loop-k l = UpwardOver l.block.top l.block.end l.initial.page (λ j. changed_row l.change (row l.initial.page j) l.block.left l.block.right) l.page 0 l.bits l.k
