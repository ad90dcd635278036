-- Each arm is the definition's, by the byte.
use Rattle.std.proofs.Common.{ne_eqb, arith}
use Rattle.inplace.proofs.parsing.steers_by.Goals as goal

pub returns-in_default : goal.returns-in_default
returns-in_default c =
    let b = c.args.byte in
    rw (ne_eqb b 0x1B (omega arith), ne_eqb b 0x5B (omega arith), c.takes_parameters.ensures, c.between.ensures)
