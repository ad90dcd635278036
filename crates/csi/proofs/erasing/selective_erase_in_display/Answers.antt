-- It is the definition at these cells.
use Rattle.csi.specs.Sequences.{to_space}
use Rattle.csi.proofs.erasing.selective_erase_in_display.Goals as goal

pub returns : goal.returns
returns c = cc (c.in_page.ensures to_space)
