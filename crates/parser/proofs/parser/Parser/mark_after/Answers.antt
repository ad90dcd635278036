-- Each way is the definition's, by the test on the byte and the separators.
use Rattle.parser.proofs.parser.Parser.mark_after.Goals as goal

pub returns-then-joins : goal.returns-then-joins
returns-then-joins c = rw (← c.joins.ensures, c.if-joins.true) c.joined_mark.ensures

pub returns-else-joins : goal.returns-else-joins
returns-else-joins c = rw (← c.joins.ensures, c.if-joins.false)
