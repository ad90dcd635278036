-- Row by row, the cells of the run are made anew, and the run touches no other row.
use mathlib.Core.List.{map}
use lib.ListN.{drop}
use Rattle.cells.specs.Cells.{changed_by}
use Rattle.page.proofs.KnownBlocks.{RangeDone}
use Rattle.page.proofs.edits.change_range.Given as goal

abbrev pub invariant-loop-k : goal.invariant-loop-k
invariant-loop-k l = RangeDone (λ x n r. map (changed_by l.change) (drop x r)) l.from l.to l.initial.page l.page 0 l.bits l.k
