-- A whole row is copied as one; of any other the segment is copied, and its flag is the row's bit. The row above ends before it.
-- Columns as many as a row has are all of it.
use Prim.Native.Nat.{◌+◌, ◌-◌, ◌*◌}
use native.Mathlib.Omega.{arith}
use Rattle.page.proofs.Redoing.{redone-move}
use Rattle.page.proofs.KnownRows.{over-or, over-whole}
use Rattle.page.proofs.rows.lower_row.Goals as goal

pub returns-then-len-eq-COLUMNS : goal.returns-then-len-eq-COLUMNS
returns-then-len-eq-COLUMNS c =
    over-whole {source = c.place-at.result - (80 * c.args.gap + 80)}
    c.args.to (c.args.to - (c.args.gap + 1)) c.args.left c.args.right c.args.column c.copy_row.ensures
    (omega arith) (omega arith) (omega arith) (omega arith)

pub returns : goal.returns
returns c =
    over-or (redone-move {from = c.place.result - (80 * c.args.gap + 80)}
    (c.args.to - (c.args.gap + 1)) c.args.column c.requires.0
    (omega arith) c.requires.2 c.place-2.ensures (omega arith) c.copy_columns-moved.ensures c.row_bit.ensures) c.args.known
