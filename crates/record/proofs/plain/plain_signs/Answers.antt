-- Its parts are its callees'.
use Rattle.record.proofs.plain.plain_signs.Goals as goal

pub returns : goal.returns
returns c =
    rw (c.are_flags.ensures, c.are_sets.ensures)
