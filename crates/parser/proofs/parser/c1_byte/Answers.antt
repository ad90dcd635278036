-- Each arm is the definition's, by the test on the byte.
use Rattle.parser.proofs.RuleLaws.{lowered-mod}
use Rattle.parser.proofs.parser.c1_byte.Goals as goal

pub returns-then-between : goal.returns-then-between
returns-then-between c = rw (← c.between.ensures, c.if-between.true)

pub returns-else-between : goal.returns-else-between
returns-else-between c = rw (← c.between.ensures, c.if-between.false, ← lowered-mod _ c.ranges.byte.fits)
