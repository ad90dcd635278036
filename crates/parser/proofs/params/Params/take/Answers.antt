-- Each way is the definition's, by the test on the byte.
use native.Mathlib.Nat.{zero-max}
use borrow.Author.Tests.{lt-ltb, le-ltb}
use Rattle.parser.proofs.params.Params.take.Goals as goal

pub returns-then-byte-lt58 : goal.returns-then-byte-lt58
returns-then-byte-lt58 c = rw (lt-ltb _ _ c.if-byte-lt58.true, c.with_digit.ensures, c.back.ensures, zero-max)

pub returns : goal.returns
returns c = rw (le-ltb _ _ c.if-byte-lt58.false, c.with_next.ensures, c.opened.ensures, c.with_joined-joined.ensures)
