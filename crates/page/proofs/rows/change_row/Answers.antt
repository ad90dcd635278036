-- One segment of the row is changed, and its flag is the row's bit.
use native.Mathlib.Omega.{arith}
use Prim.Native.Nat.{◌-◌}
use lib.ListN.{length-drop, length-map}
use Rattle.cells.specs.Rows.{row}
use Rattle.cells.specs.Cells.{changed_by}
use Rattle.cells.proofs.Differing.{paste-ext}
use Rattle.cells.proofs.RowParts.{mapped-part}
use Rattle.page.proofs.Redoing.{redone-part}
use Rattle.page.proofs.rows.change_row.Goals as goal

pub returns : goal.returns
returns c =
    let a = c.args in
    redone-part c.requires (simp (length-map, length-drop) (omega arith)) c.place.ensures c.change_words-changed.ensures c.row_bit.ensures _
    (paste-ext (row a.page.now a.at) a.left _ _ (a.right - a.left)
    (mapped-part (changed_by a.change) a.page.now _ a.at a.left (a.right - a.left) c.place.ensures (omega arith)))
