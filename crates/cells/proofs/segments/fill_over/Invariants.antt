-- The loop stores a list that repeats the word.
use mathlib.Core.Path.{◌≡◌}
use lib.ListN.{replicate}
use lib.Seq.{paste}
use Rattle.cells.proofs.segments.fill_over.Given as goal

abbrev pub invariant-loop-k : goal.invariant-loop-k
invariant-loop-k l = l.page ≡ paste l.initial.page l.to (replicate 80 l.word) l.k
