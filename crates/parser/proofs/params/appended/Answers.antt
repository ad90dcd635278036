-- Each way is the definition's, by the tests: where the number stays below 9,999, the place was not joined.
use native.Mathlib.Omega.{arith}
use borrow.Author.Tests.{eq-eqb, ne_eqb}
use Rattle.parser.proofs.params.appended.Goals as goal

pub returns-then-more-lt9999 : goal.returns-then-more-lt9999
returns-then-more-lt9999 c = let v = c.args.value in let low = c.if-more-lt9999.true in rw (ne_eqb v 10000 (λ e. omega arith)) (omega arith)

pub returns-then-value-eq-JOINED : goal.returns-then-value-eq-JOINED
returns-then-value-eq-JOINED c = rw (eq-eqb _ _ c.if-value-eq-JOINED.true)

pub returns-else-value-eq-JOINED : goal.returns-else-value-eq-JOINED
returns-else-value-eq-JOINED c = let high = c.if-more-lt9999.false in rw (ne_eqb _ _ c.if-value-eq-JOINED.false) (omega arith)
