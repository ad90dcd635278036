-- The loop keeps `Running`: the bytes before `i` are done, and none but the first interrupts.
use Rattle.std.proofs.Common.{◌-◌, length}
use Rattle.feeding.proofs.DisplayLoop.{Running}
use Rattle.feeding.proofs.display.feed_display.Given as goal

abbrev pub invariant-loop-i : goal.invariant-loop-i
invariant-loop-i l = Running l.initial.core l.initial.changed l.initial.page l.input l.i l.core l.changed l.lasting l.page

abbrev pub decreases-loop-i : goal.decreases-loop-i
decreases-loop-i l = length l.input - l.i
