-- One segment of the row is copied, and its flag is the row's bit.
use native.Mathlib.Omega.{arith}
use Rattle.page.proofs.Redoing.{redone-move}
use Rattle.page.proofs.rows.slide_row.Goals as goal

pub returns : goal.returns
returns c =
    redone-move c.args.at c.args.column c.requires.0 (omega arith) c.requires.1 c.place.ensures c.place-2.ensures
    c.copy_words-moved.ensures c.row_bit.ensures
