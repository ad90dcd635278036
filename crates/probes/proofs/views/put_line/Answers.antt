-- The parts are put one after the other.
use Rattle.probes.proofs.OutputLaws.{put-more}
use Rattle.probes.proofs.views.put_line.Goals as goal

pub returns : goal.returns
returns c =
    let number = rw c.from.ensures at c.put.ensures in
    let written = put-more (put-more c.put_line_place.ensures c.put_rendition.ensures) c.put_sets.ensures in
    put-more (put-more written c.put_flag.ensures) number
