-- The array holds the number of each set and register.
use Rattle.probes.proofs.views.put_sets.Goals as goal

pub returns : goal.returns
returns c =
    rw (c.from.ensures, c.from-2.ensures, c.from-3.ensures, c.from-4.ensures)
    at (rw (c.from-5.ensures, c.from-6.ensures) at c.put_bytes.ensures)
