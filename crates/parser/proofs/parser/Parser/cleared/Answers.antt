-- Each field is the definition's.
use Rattle.parser.proofs.parser.Parser.cleared.Goals as goal

pub returns : goal.returns
returns c = rw c.none.ensures
