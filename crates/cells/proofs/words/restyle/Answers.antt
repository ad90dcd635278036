-- The cell is taken apart, and put together with its new attributes.
use Rattle.cells.specs.Cells.{restyled}
use Rattle.cells.proofs.words.restyle.Goals as goal

pub returns : goal.returns
unfolding restyled
returns c = rw (c.pack.ensures, c.style.ensures, c.unpack-cell.ensures)
