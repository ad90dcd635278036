use Rattle.std.proofs.Common.{ap}
use Rattle.std.proofs.lemmas.List.{drop_all}
use Rattle.core_state.specs.Effects.{unedited}
use Rattle.csi.proofs.modes.set_ansi_modes.Goals as goal

pub returns : goal.returns
returns c =
    let end = drop_all _ _ c.loop-value-test.false in
    rw (c.unedited.ensures, ← c.count.ensures) (ap unedited (rw end at c.loop-value.invariant))
