-- The loop's invariant: what is left of the number is still to be put.
use Rattle.std.proofs.Common.{◌-◌}
use Rattle.probes.specs.Output.{low_first}
use Rattle.probes.proofs.OutputLaws.{Remaining}
use Rattle.probes.proofs.output.put_number.Given as goal

abbrev pub invariant-loop : goal.invariant-loop
invariant-loop l = Remaining l.initial.out (low_first l.bytes l.n) l.out (low_first (l.bytes - l.counter) l.rest)
