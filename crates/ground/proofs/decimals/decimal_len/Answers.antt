-- The ranges are where a number gets one digit more.
use Prim.Native.Nat.{◌/◌}
use native.Mathlib.Omega.{arith}
use Rattle.ground.proofs.DecimalLaws.{small-length, more-length}
use Rattle.ground.proofs.decimals.decimal_len.Goals as goal

pub returns-in-0-to-9 : goal.returns-in-0-to-9
returns-in-0-to-9 c = omega (arith, small-length c.args.n (omega arith))

pub returns-in-10-to-99 : goal.returns-in-10-to-99
returns-in-10-to-99 c = omega (arith, more-length c.args.n (omega arith), small-length (c.args.n / 10) (omega arith))

pub returns-in_default : goal.returns-in_default
returns-in_default c =
    let n = c.args.n in
    omega (arith, more-length n (omega arith), more-length (n / 10) (omega arith), small-length (n / 10 / 10) (omega arith))
