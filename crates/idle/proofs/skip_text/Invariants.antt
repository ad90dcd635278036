-- The loop keeps `Skipped`: the parser stays as it is.
use Rattle.idle.specs.Idle.{Skipped}
use Rattle.idle.proofs.skip_text.Given as goal

abbrev pub invariant-loop-i : goal.invariant-loop-i
invariant-loop-i l = Skipped l.parser l.input l.from (record { parser = l.parser; next = l.i })
