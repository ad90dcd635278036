-- The parts are put one after the other.
use Rattle.probes.proofs.OutputLaws.{put-more}
use Rattle.probes.proofs.views.put_displays.Goals as goal

pub returns : goal.returns
returns c = search put-more
