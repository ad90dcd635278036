-- Each way is the definition's, by the test on the separators.
use borrow.Author.Tests.{lt-ltb, le-ltb}
use Rattle.parser.specs.Params.{with_digit}
use Rattle.parser.proofs.params.Params.with_digit.Goals as goal

pub returns-then-at-lt16 : goal.returns-then-at-lt16
unfolding with_digit
returns-then-at-lt16 c = rw (c.appended.ensures, lt-ltb _ _ c.if-at-lt16.true)

pub returns-else-at-lt16 : goal.returns-else-at-lt16
unfolding with_digit
returns-else-at-lt16 c = rw (le-ltb _ _ c.if-at-lt16.false)
