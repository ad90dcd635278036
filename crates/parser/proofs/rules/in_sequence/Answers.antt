-- Each way is the definition's, by the tests that led there.
use borrow.Author.Tests.{lt-ltb, le-ltb, eq-eqb, ne_eqb}
use Rattle.parser.proofs.RuleLaws.{lowered-mod}
use Rattle.parser.proofs.rules.in_sequence.Goals as goal

pub returns-then-byte-lt32 : goal.returns-then-byte-lt32
returns-then-byte-lt32 c = search lt-ltb

pub returns-then-x-eq127 : goal.returns-then-x-eq127
returns-then-x-eq127 c = rw (← lowered-mod _ c.ranges.byte.fits) (search (le-ltb, eq-eqb))

pub returns : goal.returns
returns c = rw (← lowered-mod _ c.ranges.byte.fits) (search (le-ltb, ne_eqb))
