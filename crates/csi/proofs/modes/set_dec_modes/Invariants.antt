-- The loop's invariant: the rest of the parameters, from here, gives what all of them give from the start.
use Rattle.std.proofs.Common.{◌≡◌, drop, true}
use Rattle.ground.specs.Folds.{folded}
use Rattle.csi.specs.Sequences.{mode_set}
use Rattle.csi.proofs.modes.set_dec_modes.Given as goal

abbrev pub invariant-loop-value : goal.invariant-loop-value
invariant-loop-value l =
    folded (mode_set true l.on) l.core (drop l.value-index l.values) ≡ folded (mode_set true l.on) l.initial.core l.values
