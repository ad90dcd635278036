-- Each way is the definition's, by the tests on the byte and the separators.
use borrow.Author.Tests.{eq-eqb, ne_eqb, lt-ltb, le-ltb}
use Rattle.parser.specs.Params.{with_joined}
use Rattle.parser.proofs.params.Params.with_joined.Goals as goal

pub returns-then-at-lt16 : goal.returns-then-at-lt16
unfolding with_joined
returns-then-at-lt16 c = rw (eq-eqb _ _ c.if-byte-eq58.true, lt-ltb _ _ c.if-at-lt16.true)

pub returns-else-at-lt16 : goal.returns-else-at-lt16
unfolding with_joined
returns-else-at-lt16 c = rw (eq-eqb _ _ c.if-byte-eq58.true, le-ltb _ _ c.if-at-lt16.false)

pub returns-else-byte-eq58 : goal.returns-else-byte-eq58
unfolding with_joined
returns-else-byte-eq58 c = rw (ne_eqb _ _ c.if-byte-eq58.false)
