-- The loop's invariant: state, page and line are those of the run over the bytes before `from`. Each call reads one at least.
use Rattle.std.proofs.Common.{◌-◌, length}
use Rattle.steps.specs.Steps.{buffers}
use Rattle.console.proofs.FeedLaws.{Going}
use Rattle.console.proofs.feed_all.Given as goal

abbrev pub invariant-loop-from : goal.invariant-loop-from
invariant-loop-from l =
    Going l.initial.newest (buffers l.initial.page l.initial.line) l.input l.initial.reply l.newest (buffers l.page l.line) l.reply l.from

abbrev pub decreases-loop-from : goal.decreases-loop-from
decreases-loop-from l = length l.input - l.from
