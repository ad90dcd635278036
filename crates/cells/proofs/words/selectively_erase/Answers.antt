-- The test is that of the definition, on the protected bit.
use Rattle.cells.specs.Cells.{selectively_erased, unpacked}
use Rattle.ground.proofs.Cases.{cases}
use Rattle.cells.proofs.words.selectively_erase.Goals as goal

pub returns-then-word-eq1 : goal.returns-then-word-eq1
unfolding selectively_erased unpacked
returns-then-word-eq1 c = search cases

pub returns-else-word-eq1 : goal.returns-else-word-eq1
unfolding selectively_erased unpacked
returns-else-word-eq1 c = search cases
