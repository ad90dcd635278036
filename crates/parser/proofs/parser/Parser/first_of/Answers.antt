-- It is what `pick` says, by the phase's count.
use mathlib.Core.Path.{◌∙◌}
use Rattle.parser.proofs.parser.Parser.first_of.Goals as goal

pub returns : goal.returns
returns c = c.pick.ensures ∙ rw c.intermediates.ensures
