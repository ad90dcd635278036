use mathlib.Core.Path.{refl, ap, ◌∙◌}
use native.Mathlib.Omega.{arith}
use Rattle.std.proofs.lemmas.List.{take_all}
use Rattle.scrolling.specs.Text.{feeds_of}
use Rattle.scrolling.proofs.TextLaws.{feeds-more, byte_is}
use Rattle.scrolling.proofs.ahead.feeds_in.Goals as goal

pub loop-byte-init : goal.loop-byte-init
unfolding feeds_of
loop-byte-init c = (omega arith, refl)

pub overflow_add-feeds : goal.overflow_add-feeds
overflow_add-feeds c = let h = byte_is _ c.from-feeds.ensures in omega (arith, h.0)

pub loop-byte-preserved : goal.loop-byte-preserved
loop-byte-preserved c =
    let h = byte_is _ c.from-feeds.ensures in
    (omega (arith, h.0), feeds-more c.args.block.now c.loop-byte.byte-index (omega arith) c.loop-byte.invariant.1 h.1)

pub returns : goal.returns
returns c = (omega arith, c.loop-byte.invariant.1 ∙ ap feeds_of (take_all c.loop-byte.byte-index c.args.block.now c.loop-byte-test.false))
