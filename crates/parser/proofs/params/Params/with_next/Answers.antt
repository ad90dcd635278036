-- Each way is the definition's, by the test on the separators.
use borrow.Author.Tests.{lt-ltb, le-ltb}
use Rattle.parser.specs.Params.{with_next}
use Rattle.parser.proofs.params.Params.with_next.Goals as goal

pub returns-then-at-lt15 : goal.returns-then-at-lt15
unfolding with_next
returns-then-at-lt15 c = rw (lt-ltb _ _ c.if-at-lt15.true)

pub returns-else-at-lt15 : goal.returns-else-at-lt15
unfolding with_next
returns-else-at-lt15 c = rw (le-ltb _ _ c.if-at-lt15.false)
