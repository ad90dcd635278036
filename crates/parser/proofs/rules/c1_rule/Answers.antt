-- Each way is the definition's, by the tests that led there.
use borrow.Author.Tests.{eq-eqb, ne_eqb}
use Rattle.parser.proofs.rules.c1_rule.Goals as goal

pub returns-then-byte-eq155 : goal.returns-then-byte-eq155
returns-then-byte-eq155 c = search eq-eqb

pub returns-then-opens_string : goal.returns-then-opens_string
returns-then-opens_string c = search (ne_eqb, ← c.opens_string.ensures, c.if-opens_string.true)

pub returns : goal.returns
returns c = search (ne_eqb, ← c.opens_string.ensures, c.if-opens_string.false)
