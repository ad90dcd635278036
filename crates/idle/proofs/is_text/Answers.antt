-- The tests are the definition's.
use Rattle.idle.proofs.is_text.Goals as goal

pub returns : goal.returns
returns c = rw c.between.ensures
