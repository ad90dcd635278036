-- Each turn puts one block after those that were put.
use mathlib.Core.Path.{◌≡◌}
use lib.ListN.{length}
use Prim.Native.Nat.{◌-◌, ◌≤◌}
use Rattle.cells.specs.Runs.{PutSome}
use Rattle.cells.proofs.runs.put_blocks.Given as goal

abbrev pub invariant-loop-k : goal.invariant-loop-k
invariant-loop-k l =
    (l.k ≤ l.most) × (length l.page ≡ length l.initial.page) × PutSome l.initial.page l.page l.to l.input l.from l.pen l.k l.changed

abbrev pub decreases-loop-k : goal.decreases-loop-k
decreases-loop-k l = l.most - l.k
