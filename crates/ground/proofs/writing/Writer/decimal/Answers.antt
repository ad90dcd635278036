-- The ranges are where a number gets one digit more, and its digits are written one after the other.
use Rattle.std.proofs.Common.{arith, length, ap}
use Rattle.ground.proofs.WriteLaws.{append-more}
use Rattle.ground.proofs.DecimalLaws.{decimal-small, decimal-two, decimal-three}
use Rattle.ground.proofs.writing.Writer.decimal.Goals as goal

pub byte-requires : goal.byte-requires
byte-requires c = omega (arith, ap length (decimal-small c.args.n (omega arith)))

pub byte-requires-in-10-to-99 : goal.byte-requires-in-10-to-99
byte-requires-in-10-to-99 c = omega (arith, ap length (decimal-two c.args.n (omega arith) (omega arith)))

pub byte-requires-in-10-to-99-2 : goal.byte-requires-in-10-to-99-2
byte-requires-in-10-to-99-2 c = omega (arith, ap length (decimal-two c.args.n (omega arith) (omega arith)))

pub byte-requires-in_default : goal.byte-requires-in_default
byte-requires-in_default c = omega (arith, ap length (decimal-three c.args.n (omega arith) (omega arith)))

pub byte-requires-in_default-2 : goal.byte-requires-in_default-2
byte-requires-in_default-2 c = omega (arith, ap length (decimal-three c.args.n (omega arith) (omega arith)))

pub byte-requires-in_default-3 : goal.byte-requires-in_default-3
byte-requires-in_default-3 c = omega (arith, ap length (decimal-three c.args.n (omega arith) (omega arith)))

pub returns-in-0-to-9 : goal.returns-in-0-to-9
returns-in-0-to-9 c = rw (decimal-small c.args.n (omega arith)) c.byte.ensures

pub returns-in-10-to-99 : goal.returns-in-10-to-99
returns-in-10-to-99 c = rw (decimal-two c.args.n (omega arith) (omega arith)) (append-more c.byte-in-10-to-99.ensures c.byte-in-10-to-99-2.ensures)

pub returns-in_default : goal.returns-in_default
returns-in_default c =
    rw (decimal-three c.args.n (omega arith) (omega arith)) (append-more (append-more c.byte-in_default.ensures c.byte-in_default-2.ensures) c.byte-in_default-3.ensures)
