-- The loop's invariant: the values so far, and the numbers that are left, are all of them.
use Rattle.std.proofs.Common.{◌≡◌, ◌+◌, ◌*◌, ◌++◌, length, take, drop}
use Rattle.probes.specs.Pokes.{numbers_of}
use Rattle.probes.proofs.pokes.values_of.Given as goal

abbrev pub invariant-loop-i : goal.invariant-loop-i
invariant-loop-i l =
    (length l.bytes ≡ 37) × (length l.values ≡ 16) × (take l.i l.values ++ numbers_of (drop (5 + 2 * l.i) l.bytes) ≡ numbers_of (drop 5 l.bytes))
