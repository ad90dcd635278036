-- The tests are the definition's.
use Rattle.record.proofs.plain.plain_parser.Goals as goal

pub returns : goal.returns
returns c = rw (c.between.ensures, c.plain_phase.ensures)
