-- The end of a control sequence by its law; for all else, parser and action are what `kept` and `action_of` say of the transition.
use mathlib.Core.Path.{sym}
use Rattle.parser.specs.Parser.{decode}
use Rattle.parser.proofs.SequenceLaws.{final-decode}
use Rattle.parser.proofs.parser.Parser.decode.Goals as goal

pub returns-then-takes_parameters-between : goal.returns-then-takes_parameters-between
unfolding decode
returns-then-takes_parameters-between c =
    let both = rw (c.takes_parameters.ensures, c.between.ensures) at c.if-takes_parameters-between.true in
    rw (c.sequence_action.ensures, c.in_phase.ensures) (sym (final-decode _ _ both))

pub returns : goal.returns
unfolding decode
returns c = rw (c.action_of.ensures, c.kept.ensures, c.transition-next.ensures)
