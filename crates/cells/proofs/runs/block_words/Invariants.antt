-- Each turn writes one word of the block.
use mathlib.Core.Path.{◌≡◌}
use lib.ListN.{length}
use Rattle.cells.specs.Runs.{BlockWords}
use Rattle.cells.proofs.runs.block_words.Given as goal

abbrev pub invariant-loop-k : goal.invariant-loop-k
invariant-loop-k g l = (length l.words ≡ g.row.N) × BlockWords l.words l.input l.from l.k l.base
