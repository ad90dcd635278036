-- It is the definition at these cells.
use Rattle.csi.specs.Sequences.{to_blank}
use Rattle.csi.proofs.erasing.erase_in_line.Goals as goal

pub returns : goal.returns
returns c = cc (c.in_row.ensures to_blank)
