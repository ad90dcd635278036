use mathlib.Core.Path.{sym, ◌∙◌}
use Rattle.idle.proofs.IdleLaws.{skipped-none, skipped-text}
use Rattle.idle.proofs.skip_text.Goals as goal

pub loop-i-preserved : goal.loop-i-preserved
loop-i-preserved c =
    skipped-text c.loop-i.invariant c.loop-i-test.true c.requires.1
    (sym c.is_text.ensures ∙ c.if-not-is_text.false)

pub loop-i-init : goal.loop-i-init
loop-i-init c = skipped-none _ _ _ c.requires.0
