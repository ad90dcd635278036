-- A word is read before the loop stores over it, since it goes downward and to a place that is not earlier.
use lib.ListN.{drop}
use Prim.Native.Nat.{◌+◌, ◌-◌}
use Rattle.cells.specs.Segments.{Pasted}
use Rattle.cells.proofs.segments.copy_downward.Given as goal

abbrev pub invariant-loop-k : goal.invariant-loop-k
invariant-loop-k l = Pasted l.initial.page l.page (l.to + l.k) (drop (l.from + l.k) l.initial.page) (l.len - l.k) l.changed
