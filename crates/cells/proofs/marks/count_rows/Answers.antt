-- A number below 2 ^ n is its n bits, and the ones among them are counted.
use Rattle.cells.proofs.BitLaws.{ones-size}
use Rattle.cells.proofs.marks.count_rows.Goals as goal

pub returns : goal.returns
returns c = λ n l. ones-size n c.args.bits l
