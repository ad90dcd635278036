-- Row by row, the cells of the run are made anew, and the run touches no other row.
use lib.ListN.{replicate}
use Rattle.page.proofs.KnownBlocks.{RangeDone}
use Rattle.page.proofs.edits.fill_range.Given as goal

abbrev pub invariant-loop-k : goal.invariant-loop-k
invariant-loop-k l = RangeDone (λ x n r. replicate n l.word) l.from l.to l.initial.page l.page l.known l.bits l.k
