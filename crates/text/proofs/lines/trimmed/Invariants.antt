-- The loop's invariant: the cells that are left, trimmed, are the row, trimmed.
use mathlib.Core.Path.{◌≡◌}
use mathlib.Core.List.{map}
use Prim.Native.Nat.{◌≤◌}
use lib.ListN.{length}
use Rattle.text.specs.Text.{sign, trimmed}
use Rattle.text.proofs.lines.trimmed.Given as goal

abbrev pub invariant-loop-left : goal.invariant-loop-left
invariant-loop-left l = (length l.left ≤ length l.row) × (trimmed (map sign l.left) ≡ trimmed (map sign l.row))

abbrev pub decreases-loop-left : goal.decreases-loop-left
decreases-loop-left l = length l.left
