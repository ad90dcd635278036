-- Each arm is the definition's, by the test.
use borrow.Author.Tests.{lt-ltb, le-ltb}
use Rattle.parser.proofs.rules.below.Goals as goal

pub returns-then-x-limit : goal.returns-then-x-limit
returns-then-x-limit c = search lt-ltb

pub returns-else-x-limit : goal.returns-else-x-limit
returns-else-x-limit c = search le-ltb
