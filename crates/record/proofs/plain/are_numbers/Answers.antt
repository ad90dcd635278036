use Rattle.std.proofs.Common.{◌≡◌, ◌<◌, ◌≤◌, length, sym, refl, ◌∙◌, arith, rules}
use Rattle.record.proofs.ByteLaws.{one_more, no_more}
use Rattle.record.proofs.plain.are_numbers.Goals as goal

pub loop-value-preserved : goal.loop-value-preserved
loop-value-preserved c =
    let values = c.args.values in
    let i = c.loop-value.value-index in
    let e : length values ≡ 16 = search rules in
    let h : i < length values = omega arith in
    one_more 9999 values c.loop-value.low i h ∙ c.loop-value.invariant

pub returns : goal.returns
returns c =
    let values = c.args.values in
    let i = c.loop-value.value-index in
    let e : length values ≡ 16 = search rules in
    let h : length values ≤ i = omega arith in
    sym (no_more 9999 values c.loop-value.low i h) ∙ c.loop-value.invariant

pub loop-value-init : goal.loop-value-init
loop-value-init c = refl
