-- LF, VT and FF go by newline mode.
use Rattle.std.proofs.Common.{arith}
use Rattle.dispatch.proofs.TouchLaws.{line-touch}
use Rattle.dispatch.proofs.touches.control_touch.Goals as goal

pub returns-in-10 : goal.returns-in-10
returns-in-10 c =
    let bs = c.in-10.in_default-own.rest.0.0.0.0.0.1 in
    let ht = c.in-10.in_default-own.rest.0.0.0.0.1 in
    let low = c.in-10.if-byte-lt8-own.false in
    let high = c.in-10.if-byte-lt13-own.true in
    rw (c.narrow-in-10.ensures, c.line_feed.ensures) (line-touch c.args.core c.args.byte (omega arith) (omega arith))
