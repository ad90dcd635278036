-- The parts are put one after the other.
use Rattle.probes.proofs.OutputLaws.{put-more}
use Rattle.probes.proofs.views.put_place.Goals as goal

pub returns : goal.returns
returns c =
    let margins = put-more (put-more (put-more c.put.ensures c.put_cursor.ensures) c.put-2.ensures) c.put-3.ensures in
    put-more margins c.put_modes.ensures
