use Rattle.std.proofs.Common.{refl, arith, length-set, rules}
use Rattle.probes.proofs.PokeLaws.{values-less, values-all}
use Rattle.probes.proofs.pokes.values_of.Goals as goal

pub loop-i-preserved : goal.loop-i-preserved
loop-i-preserved c =
    let inv = c.loop-i.invariant in
    (inv.0, simp length-set inv.1, values-less _ _ _ (omega arith) inv.0 inv.1 inv.2 _ c.number16.ensures)

pub returns : goal.returns
returns c =
    let inv = c.loop-i.invariant in
    values-all c.args.bytes c.loop-i.values c.loop-i.i (omega arith) inv.0 inv.1 inv.2

pub loop-i-init : goal.loop-i-init
loop-i-init c = (search rules, refl, refl)
