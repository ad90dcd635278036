-- The cells that move and the word that enters lie side by side in the row, so together they are one change of it.
use Rattle.page.proofs.OneRow.{insert-edited}
use Rattle.page.proofs.edits.insert_cells.Goals as goal

pub returns : goal.returns
returns c = search insert-edited
