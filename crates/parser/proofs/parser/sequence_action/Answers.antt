-- The mark is what `pick` says, by the test.
use Rattle.parser.proofs.parser.sequence_action.Goals as goal

pub returns : goal.returns
returns c = rw (c.pick.ensures, c.is_joined_rendition.ensures)
