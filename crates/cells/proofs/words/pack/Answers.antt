-- Each part of the word is what its callee ensures, and the parts are too small for their sum to wrap.
use native.Mathlib.Omega.{arith}
use Rattle.cells.specs.Cells.{packed}
use Rattle.cells.proofs.words.pack.Goals as goal

pub returns : goal.returns
unfolding packed
returns c = omega arith
