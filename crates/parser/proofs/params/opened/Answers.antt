-- Each way is the definition's, by the test on the byte.
use borrow.Author.Tests.{eq-eqb, ne_eqb}
use Rattle.parser.proofs.params.opened.Goals as goal

pub returns-then-byte-eq58 : goal.returns-then-byte-eq58
returns-then-byte-eq58 c = rw (eq-eqb _ _ c.if-byte-eq58.true)

pub returns-else-byte-eq58 : goal.returns-else-byte-eq58
returns-else-byte-eq58 c = rw (ne_eqb _ _ c.if-byte-eq58.false)
