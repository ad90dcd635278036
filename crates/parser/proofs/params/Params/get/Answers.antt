-- Below the count the value is read, as the definition has it.
use borrow.Author.Tests.{lt-ltb, le-ltb}
use Rattle.parser.proofs.params.Params.get.Goals as goal

pub returns-then-i-count : goal.returns-then-i-count
returns-then-i-count c = rw (lt-ltb _ _ (rw c.count.ensures at c.if-i-count.true))

pub returns-else-i-count : goal.returns-else-i-count
returns-else-i-count c = rw (le-ltb _ _ (rw c.count.ensures at c.if-i-count.false))
