-- One with a number that names nothing is not whole; of any other its state tells.
use mathlib.Core.Path.{◌≡◌, refl, sym, ap, ◌∙◌}
use mathlib.Core.Bool.{Bool, true, false, false≢true}
use Rattle.steps.specs.Whole.{whole_state}
use Rattle.terminal.specs.Answers.{whole_checked}
use Rattle.record.specs.declared.Terminal.{Terminal}
use Rattle.record.specs.Record.{named, state_of}
use Rattle.record.proofs.EmptiedLaws.{named-with, whole-named}
use Rattle.pankholim.proofs.by_value.check_record.Goals as goal

unnamed : (t : Terminal) → named t ≡ false → false ≡ whole_state (state_of t)
unnamed t e = go (whole_state (state_of t)) refl
  where
    go : (b : Bool) → whole_state (state_of t) ≡ b → false ≡ b
    go true h = absurd (false≢true (sym e ∙ whole-named t h))
    go false h = refl

pub returns-then-not-named : goal.returns-then-not-named
returns-then-not-named c = rw (← unnamed c.args.terminal (sym c.named.ensures ∙ c.if-not-named.true))

pub returns : goal.returns
returns c =
    let t = c.args.terminal in
    c.check_whole.ensures ∙ ap whole_checked (c.requires ∙ named-with t (sym c.named.ensures ∙ c.if-not-named.false))
