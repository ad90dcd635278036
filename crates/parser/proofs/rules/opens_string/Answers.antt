-- The tests are the definition's.
use Rattle.parser.proofs.rules.opens_string.Goals as goal

pub returns : goal.returns
returns c = rw c.between.ensures
