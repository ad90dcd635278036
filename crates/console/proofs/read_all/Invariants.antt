-- Each read keeps the state whole and the lengths of what is lent.
use Rattle.std.proofs.Common.{◌≡◌, length}
use Rattle.steps.specs.Ready.{Ready}
use Rattle.console.proofs.read_all.Given as goal

abbrev pub invariant-loop : goal.invariant-loop
invariant-loop g l = (length l.line ≡ length l.initial.line) × (length l.reply ≡ length l.initial.reply) × Ready l.state l.page
