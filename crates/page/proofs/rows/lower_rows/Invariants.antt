-- The rows from `k` to `end` are done. The row that the next one takes is not done yet, since the loop goes from the last row to the first and takes from
-- above. Rows that go down by none are what they were.
use Prim.Native.Nat.{◌-◌, ◌≤◌}
use Rattle.cells.specs.Rows.{row}
use Rattle.page.specs.Edits.{overlaid_from, in_range}
use Rattle.page.specs.Writes.{RedoneOver}
use Rattle.page.proofs.rows.lower_rows.Given as goal

abbrev pub invariant-loop-k : goal.invariant-loop-k
invariant-loop-k l = (l.block.top ≤ l.k) × (l.k ≤ l.block.end) × RedoneOver l.initial.page l.page (in_range l.k l.block.end)
    (λ j. overlaid_from (row l.initial.page j) l.block.left l.block.right (row l.initial.page (j - l.count)) l.column) l.known l.bits
