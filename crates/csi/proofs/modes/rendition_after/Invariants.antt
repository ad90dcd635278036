-- The loop's invariant: the rest of the parameters, from here, gives what all of them give from the start. What is joined gives nothing.
use Rattle.std.proofs.Common.{◌≡◌, drop}
use Rattle.ground.specs.Folds.{folded}
use Rattle.csi.specs.Sequences.{rendered}
use Rattle.csi.proofs.modes.rendition_after.Given as goal

abbrev pub invariant-loop-value : goal.invariant-loop-value
invariant-loop-value l = folded rendered l.rendition (drop l.value-index l.values) ≡ folded rendered l.initial.rendition l.values
