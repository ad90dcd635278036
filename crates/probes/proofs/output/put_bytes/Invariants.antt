-- The loop's invariant: the bytes from the index on are still to be put.
use Rattle.std.proofs.Common.{drop}
use Rattle.probes.proofs.OutputLaws.{Remaining}
use Rattle.probes.proofs.output.put_bytes.Given as goal

abbrev pub invariant-loop-byte : goal.invariant-loop-byte
invariant-loop-byte l = Remaining l.initial.out l.from l.out (drop l.byte-index l.from)
