-- What is left of the text is still to be written. A line feed goes one row down, CR to column 1, and a run of characters fills cells of one row.
use Prim.Native.Nat.{◌-◌}
use lib.ListN.{length}
use Rattle.scrolling.proofs.WriteLaws.{Writing}
use Rattle.scrolling.proofs.write_lines.Given as goal

abbrev pub invariant-loop-byte : goal.invariant-loop-byte
invariant-loop-byte l =
    Writing l.fn.region.rows l.newline l.pen (record { page = l.fn.page; row = l.fn.region.end - 1 - l.ahead.feeds; column = l.fn.column })
    l.ahead.text.now l.page l.row l.column l.rest

abbrev pub decreases-loop-byte : goal.decreases-loop-byte
decreases-loop-byte l = length l.rest
