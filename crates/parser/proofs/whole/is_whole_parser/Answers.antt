-- The tests are the definition's, in a row.
use mathlib.Core.Bool.{and_assoc, and-true}
use Rattle.parser.proofs.whole.is_whole_parser.Goals as goal

pub returns : goal.returns
returns c =
    rw (c.intermediates-count.ensures, c.none_above.ensures, c.highest.ensures, c.between.ensures)
    (rw (c.between-2.ensures, c.is_mark.ensures) (simp (and_assoc, and-true)))
