-- The mark and the parameters are what `mark_after` and `take` say.
use Rattle.parser.proofs.parser.Parser.gathered.Goals as goal

pub returns : goal.returns
returns c = rw (c.with_params.ensures, c.take.ensures, c.mark_after.ensures)
