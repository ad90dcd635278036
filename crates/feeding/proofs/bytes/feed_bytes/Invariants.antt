-- The loop keeps `FedSoFar`: the bytes before `read` are done and their replies sent. A reply that does not fit ends it, and so does the input's end.
use Rattle.std.proofs.Common.{◌-◌, length}
use Rattle.steps.specs.Steps.{buffers}
use Rattle.steps.specs.Ready.{state_from}
use Rattle.feeding.proofs.FeedLoop.{FedSoFar}
use Rattle.feeding.proofs.bytes.feed_bytes.Given as goal

abbrev pub invariant-loop-read : goal.invariant-loop-read
invariant-loop-read l =
    FedSoFar (state_from l.initial.core l.initial.line l.initial.tracked) (buffers l.initial.page l.initial.cells) l.input l.initial.reply l.read
    (state_from l.core l.line l.tracked) (buffers l.page l.cells) l.reply l.replied

abbrev pub decreases-loop-read : goal.decreases-loop-read
decreases-loop-read l = length l.input - l.read
