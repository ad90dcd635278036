-- Each way is the definition's, by the tests that led there.
use borrow.Author.Tests.{lt-ltb, le-ltb}
use Rattle.parser.proofs.rules.escape_rule.Goals as goal

pub returns-then-x-lt48 : goal.returns-then-x-lt48
returns-then-x-lt48 c = search lt-ltb

pub returns-then-between : goal.returns-then-between
returns-then-between c = search (le-ltb, ← c.between.ensures, c.if-between.true)

pub returns : goal.returns
returns c = search (le-ltb, ← c.between.ensures, c.if-between.false)
