-- While the flag is true, each byte passed is within the bounds.
use mathlib.Core.Path.{◌≡◌}
use mathlib.Core.Bool.{true}
use Rattle.cells.specs.Runs.{Plain}
use Rattle.cells.proofs.runs.is_plain.Given as goal

abbrev pub invariant-loop-k : goal.invariant-loop-k
invariant-loop-k g l = l.plain ≡ true → Plain l.input l.from l.k l.low
