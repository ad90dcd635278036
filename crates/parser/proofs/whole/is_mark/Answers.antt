-- The tests are the definition's, of the mark without its top bit.
use Rattle.parser.proofs.RuleLaws.{lowered-mod}
use Rattle.parser.proofs.whole.is_mark.Goals as goal

pub returns : goal.returns
returns c = rw (c.between.ensures, lowered-mod _ c.ranges.mark.fits)
