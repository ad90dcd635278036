-- Each digit is what its callee ensures, and below 4, so that the sum does not wrap.
use native.Mathlib.Omega.{arith}
use Rattle.cells.specs.Cells.{styling_number}
use Rattle.cells.proofs.words.U8FromStyling.from.Goals as goal

pub returns : goal.returns
unfolding styling_number
returns c = omega arith
