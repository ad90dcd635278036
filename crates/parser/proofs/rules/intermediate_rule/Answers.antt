-- Each way is the definition's, by the tests that led there.
use borrow.Author.Tests.{lt-ltb, le-ltb}
use Rattle.parser.proofs.rules.intermediate_rule.Goals as goal

pub returns-then-x-lt48 : goal.returns-then-x-lt48
returns-then-x-lt48 c = search lt-ltb

pub returns : goal.returns
returns c = rw (← c.to.ensures, ← c.to-2.ensures) (search le-ltb)
