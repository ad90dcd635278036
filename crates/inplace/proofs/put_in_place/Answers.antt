-- The characters have room from the cursor on, and what was pasted is a feeding.
use Rattle.std.proofs.Common.{arith}
use Rattle.core_state.specs.Bounds.{OnPage}
use Rattle.inplace.proofs.PlaceLaws.{Taking, taking, on-page, base-fits, fed-in-place}
use Rattle.inplace.proofs.put_in_place.Goals as goal
use Rattle.inplace.proofs.put_in_place.Goals.{Start}

placed : (s : Start) → let t = s.args.terminal in OnPage t.rows t.cursor.row t.cursor.column
placed s = on-page s.args.terminal s.requires.0

taken : (s : Start) → Taking s.args.terminal s.args.input.now
taken s = taking s.args.terminal s.args.input.now s.requires.1

pub overflow_sub-at : goal.overflow_sub-at
overflow_sub-at c = omega (arith, (placed (goal.at.overflow_sub-at c).Start).row_low)

pub overflow_sub-at-2 : goal.overflow_sub-at-2
overflow_sub-at-2 c = omega (arith, (placed (goal.at.overflow_sub-at-2 c).Start).column-low)

pub put_ascii-requires : goal.put_ascii-requires
put_ascii-requires c =
    (omega (arith, placed (goal.at.put_ascii-requires c).Start, (taken (goal.at.put_ascii-requires c).Start).room, c.requires.2), omega (arith, c.base.ensures, base-fits c.args.terminal))

pub returns : goal.returns
returns c =
    fed-in-place c.args.terminal c.requires.0 c.args.input.now (taken (goal.at.returns c).Start) c.args.page.now c.requires.2 _ _ (rw c.base.ensures at c.put_ascii.ensures)
