-- The loop's invariant: those before are in range, and so is the rest, if all are.
use Rattle.std.proofs.Common.{◌≡◌, ◌&&◌, drop}
use Rattle.inplace.specs.InPlace.{all_ascii}
use Rattle.inplace.proofs.all_ascii.Given as goal

abbrev pub invariant-loop-byte : goal.invariant-loop-byte
invariant-loop-byte l = (l.all && all_ascii (drop l.byte-index l.input)) ≡ all_ascii l.input
