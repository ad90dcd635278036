-- The cells that move and the blanks that enter lie side by side in the row, so together they are one change of it.
use Rattle.page.proofs.OneRow.{delete-edited}
use Rattle.page.proofs.edits.delete_cells.Goals as goal

pub returns : goal.returns
returns c = search delete-edited
