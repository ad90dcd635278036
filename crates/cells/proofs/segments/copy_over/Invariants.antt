-- A word is read before the loop stores over it, as in `copy_upward`.
use mathlib.Core.Path.{◌≡◌}
use lib.ListN.{drop}
use lib.Seq.{paste}
use Rattle.cells.proofs.segments.copy_over.Given as goal

abbrev pub invariant-loop-k : goal.invariant-loop-k
invariant-loop-k l = l.page ≡ paste l.initial.page l.to (drop l.from l.initial.page) l.k
