-- Each way is the definition's, by the test on the mark.
use Rattle.parser.proofs.whole.highest.Goals as goal

pub returns-then-is_joined : goal.returns-then-is_joined
returns-then-is_joined c = rw (← c.is_joined.ensures, c.if-is_joined.true)

pub returns-else-is_joined : goal.returns-else-is_joined
returns-else-is_joined c = rw (← c.is_joined.ensures, c.if-is_joined.false)
