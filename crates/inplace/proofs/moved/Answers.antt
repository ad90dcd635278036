-- The row is on the page, and the rest is the definition's.
use Rattle.std.proofs.Common.{arith}
use Rattle.inplace.specs.InPlace.{moved_by}
use Rattle.inplace.proofs.PlaceLaws.{few-rows, on-page}
use Rattle.inplace.proofs.moved.Goals as goal

pub overflow_sub-terminal : goal.overflow_sub-terminal
overflow_sub-terminal c =
    omega (arith, (on-page c.args.terminal c.requires.0).row_low)

pub row_bit-requires : goal.row_bit-requires
row_bit-requires c =
    omega (arith, (on-page c.args.terminal c.requires.0).row-high, few-rows c.args.terminal c.requires.0)

pub returns : goal.returns
unfolding moved_by
returns c = rw c.row_bit.ensures
