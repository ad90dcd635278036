-- It is a cell's word, which leaves the two highest bits zero.
use Rattle.cells.proofs.CellLaws.{packed-small}
use Rattle.core_state.proofs.pens.flag_bits.Goals as goal

pub returns : goal.returns
returns c = (c.pack.ensures, rw c.pack.ensures (packed-small _))
