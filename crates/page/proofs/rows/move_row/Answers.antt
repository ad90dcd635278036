-- A whole row is copied as one; of any other the segment is copied, and its flag is the row's bit. Columns as many as a row has are all of it.
use native.Mathlib.Omega.{arith}
use Rattle.page.proofs.Redoing.{redone-move}
use Rattle.page.proofs.KnownRows.{over-or, over-whole}
use Rattle.page.proofs.rows.move_row.Goals as goal

pub returns-then-len-eq-COLUMNS : goal.returns-then-len-eq-COLUMNS
returns-then-len-eq-COLUMNS c =
    over-whole {source = c.place-then-len-eq-COLUMNS.result} c.args.to c.args.from c.args.left c.args.right c.args.column c.copy_row.ensures
    (omega arith) (omega arith) (omega arith) (omega arith)

pub returns : goal.returns
returns c =
    over-or (redone-move c.args.from c.args.column c.requires.0 c.requires.1 c.requires.2 c.place-2.ensures
    c.place-3.ensures c.copy_columns-changed.ensures c.row_bit.ensures) c.args.known
