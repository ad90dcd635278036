-- The signs of the cells that `trimmed` leaves are written, and 0A after them.
use native.Mathlib.Omega.{arith}
use Rattle.ground.proofs.WriteLaws.{append-more}
use Rattle.text.proofs.TextLaws.{line-length}
use Rattle.text.proofs.lines.write_line.Goals as goal

pub write_signs-requires : goal.write_signs-requires
write_signs-requires c = rw c.trimmed.ensures (omega (arith, line-length c.args.row.now))

pub byte-requires : goal.byte-requires
byte-requires c = omega (arith, c.requires, rw c.trimmed.ensures at c.write_signs.ensures, line-length c.args.row.now)

pub returns : goal.returns
returns c = append-more (rw c.trimmed.ensures at c.write_signs.ensures) c.byte.ensures
