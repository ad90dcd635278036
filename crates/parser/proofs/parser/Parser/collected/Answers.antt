-- The intermediates are what `pick` says, by the phase's count.
use Rattle.parser.proofs.parser.Parser.collected.Goals as goal

pub returns : goal.returns
returns c = rw (c.pick-2.ensures, c.pick.ensures, c.intermediates-count.ensures)
