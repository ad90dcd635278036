-- Each setting is what its callee ensures.
use Rattle.cells.specs.Cells.{styling_of}
use Rattle.cells.proofs.words.StylingFromU8.from.Goals as goal

pub returns : goal.returns
unfolding styling_of
returns c = cc
