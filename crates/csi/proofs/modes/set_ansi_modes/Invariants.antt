-- The loop's invariant: the rest of the parameters, from here, gives what all of them give from the start.
use Rattle.std.proofs.Common.{◌≡◌, drop, false}
use Rattle.ground.specs.Folds.{folded}
use Rattle.csi.specs.Sequences.{mode_set}
use Rattle.csi.proofs.modes.set_ansi_modes.Given as goal

abbrev pub invariant-loop-value : goal.invariant-loop-value
invariant-loop-value l =
    folded (mode_set false l.on) l.core (drop l.value-index l.values) ≡ folded (mode_set false l.on) l.initial.core l.values
