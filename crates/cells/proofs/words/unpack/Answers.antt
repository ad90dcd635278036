-- Each field is what its callee ensures.
use Rattle.cells.specs.Cells.{unpacked}
use Rattle.cells.proofs.words.unpack.Goals as goal

pub returns : goal.returns
unfolding unpacked
returns c = cc
