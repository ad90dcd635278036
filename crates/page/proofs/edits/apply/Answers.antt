-- To keep the page is done at once; any other edit is made.
use Rattle.page.proofs.KnownRows.{keep-over}
use Rattle.page.proofs.edits.apply.Goals as goal

pub returns-in-Keep : goal.returns-in-Keep
returns-in-Keep c = search keep-over
