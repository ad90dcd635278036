use mathlib.Core.Path.{refl, ap, ◌∙◌}
use native.Mathlib.Omega.{arith}
use Rattle.std.proofs.lemmas.List.{take_all}
use Rattle.scrolling.specs.Text.{all_text}
use Rattle.scrolling.proofs.TextLaws.{text-more}
use Rattle.scrolling.proofs.ahead.text_block.Goals as goal

pub loop-byte-init : goal.loop-byte-init
unfolding all_text
loop-byte-init c = refl

pub loop-byte-preserved : goal.loop-byte-preserved
loop-byte-preserved c = text-more c.args.block.now c.loop-byte.byte-index (omega arith) c.loop-byte.invariant c.is_text-text.ensures

pub returns : goal.returns
returns c = c.loop-byte.invariant ∙ ap all_text (take_all c.loop-byte.byte-index c.args.block.now c.loop-byte-test.false)
