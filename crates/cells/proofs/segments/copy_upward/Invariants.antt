-- A word is read before the loop stores over it, since the loop goes upward and the words that it copies
-- do not lie before the place where they go, or lie apart from it.
use lib.ListN.{drop}
use Rattle.cells.specs.Segments.{Pasted}
use Rattle.cells.proofs.segments.copy_upward.Given as goal

abbrev pub invariant-loop-k : goal.invariant-loop-k
invariant-loop-k l = Pasted l.initial.page l.page l.to (drop l.from l.initial.page) l.k l.changed
