use mathlib.Core.Path.{sym, ◌∙◌}
use Prim.Native.Nat.{ℕ}
use native.Mathlib.Omega.{arith}
use Rattle.std.proofs.Common.{length-take}
use Rattle.text.proofs.Trimming.{trim-more, trim-stop, trim_none}
use Rattle.text.proofs.lines.trimmed.Goals as goal

pub returns-then-sign-ne32 : goal.returns-then-sign-ne32
returns-then-sign-ne32 c =
    sym (trim-stop c.loop-left.left.now (omega arith) (λ e. c.if-sign-ne32.true (c.sign.ensures ∙ e))) ∙ c.loop-left.invariant.1

pub loop-left-preserved : goal.loop-left-preserved
loop-left-preserved c =
    let space = sym c.sign.ensures ∙ c.if-sign-ne32.false in
    (omega (arith, length-take {A = ℕ}), sym (trim-more c.loop-left.left.now (omega arith) space) ∙ c.loop-left.invariant.1)

pub returns : goal.returns
returns c = sym (trim_none _ c.in_default.len_below) ∙ c.loop-left.invariant.1
