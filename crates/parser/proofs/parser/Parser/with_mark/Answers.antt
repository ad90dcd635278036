-- The mark is what `pick` says, by the test.
use Rattle.parser.proofs.parser.Parser.with_mark.Goals as goal

pub returns : goal.returns
returns c = rw (c.pick.ensures, c.joined_mark.ensures, c.is_joined.ensures)
