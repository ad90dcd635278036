-- The loop's invariant: the looks so far, and the search from here on, are the search from the column.
use mathlib.Core.Path.{◌≡◌}
use Prim.Native.Nat.{◌-◌}
use Rattle.device.specs.TabSearch.{after, searched}
use Rattle.device.proofs.tabs.Tabs.search.Given as goal

abbrev pub invariant-loop-at : goal.invariant-loop-at
invariant-loop-at l = after l.looks (searched l.self l.at) ≡ searched l.self l.column

abbrev pub decreases-loop-at : goal.decreases-loop-at
decreases-loop-at l = 80 - l.at
