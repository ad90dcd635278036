-- The loop's invariant: those before are low, and so is the rest, if all are.
use Rattle.std.proofs.Common.{◌≡◌, ◌&&◌, drop}
use Rattle.parser.specs.Params.{none_above}
use Rattle.record.proofs.plain.are_numbers.Given as goal

abbrev pub invariant-loop-value : goal.invariant-loop-value
invariant-loop-value l = (l.low && none_above 9999 (drop l.value-index l.fn.values)) ≡ none_above 9999 l.fn.values
