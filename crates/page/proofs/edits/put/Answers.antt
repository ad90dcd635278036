-- One cell is stored and compared, and the flag is the row's bit.
use Rattle.page.proofs.OneRow.{put-edited}
use Rattle.page.proofs.edits.put.Goals as goal

pub returns : goal.returns
returns c = search put-edited
