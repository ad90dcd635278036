-- The flags that a space keeps are one digit of the word.
use mathlib.Core.Path.{sym}
use Rattle.cells.proofs.CellLaws.{spaced-is}
use Rattle.cells.proofs.words.space.Goals as goal

pub returns : goal.returns
returns c = sym (spaced-is c.args.word)
