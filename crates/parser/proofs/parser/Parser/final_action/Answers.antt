-- Its rule is that of sequences.
use mathlib.Core.Path.{◌∙◌}
use Rattle.parser.proofs.RuleLaws.{lowered-mod}
use Rattle.parser.proofs.SequenceLaws.{final-acts}
use Rattle.parser.proofs.parser.Parser.final_action.Goals as goal

pub returns : goal.returns
returns c =
    let b = c.args.byte in
    c.action_of.ensures
    ∙ final-acts c.args.self b c.requires.2 c.requires.0 c.requires.1 c.sequence_rule-step.result
    (rw (lowered-mod b c.ranges.byte.fits) at c.sequence_rule-step.ensures)
