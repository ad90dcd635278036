use Rattle.std.proofs.Common.{◌<◌, ◌≤◌, length, sym, refl, ◌∙◌, arith}
use Rattle.inplace.proofs.AsciiLaws.{one_more, no_more}
use Rattle.inplace.proofs.all_ascii.Goals as goal

pub loop-byte-preserved : goal.loop-byte-preserved
loop-byte-preserved c =
    let input = c.args.input.now in
    let i = c.loop-byte.byte-index in
    let h : i < length input = omega arith in
    rw c.between-all.ensures (one_more input c.loop-byte.all i h ∙ c.loop-byte.invariant)

pub returns : goal.returns
returns c =
    let input = c.args.input.now in
    let i = c.loop-byte.byte-index in
    let h : length input ≤ i = omega arith in
    sym (no_more input c.loop-byte.all i h) ∙ c.loop-byte.invariant

pub loop-byte-init : goal.loop-byte-init
loop-byte-init c = refl
