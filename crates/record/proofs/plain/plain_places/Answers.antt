-- The tests are the definition's.
use Rattle.record.specs.Plain.{place_tests}
use Rattle.record.proofs.plain.plain_places.Goals as goal

pub returns : goal.returns
unfolding place_tests
returns c =
    rw (c.is_sized.ensures, c.between.ensures, c.between-2.ensures, c.between-3.ensures)
    (rw (c.between-4.ensures, c.between-5.ensures, c.between-6.ensures))
