-- One byte is looked at, and no other input.
use Rattle.std.proofs.Common.{eq-eqb, ne_eqb}
use Rattle.inplace.specs.InPlace.{steers_in_place}
use Rattle.inplace.proofs.parsing.steers.Goals as goal

pub returns-then-input-ne1 : goal.returns-then-input-ne1
unfolding steers_in_place
returns-then-input-ne1 c = rw (ne_eqb _ 1 c.if-input-ne1.true)

pub returns : goal.returns
unfolding steers_in_place
returns c =
    rw (eq-eqb _ 1 c.if-input-ne1.false, ← c.from.ensures) c.steers_by.ensures
