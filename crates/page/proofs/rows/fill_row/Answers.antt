-- The segment is filled. Where it is a whole row that is known to have changed, its bit is there; else the flag is the row's bit.
use mathlib.Core.Path.{refl, sym, ◌∙◌}
use Prim.Native.Nat.{◌-◌}
use native.Mathlib.Omega.{arith}
use lib.ListN.{length-replicate, replicate}
use Rattle.page.proofs.Redoing.{redone-part}
use Rattle.page.proofs.KnownRows.{over-or, over-known}
use Rattle.page.proofs.rows.fill_row.Goals as goal

pub returns-then-has_bit : goal.returns-then-has_bit
returns-then-has_bit c =
    over-known c.place.result (replicate (c.args.right - c.args.left) c.args.word) c.requires (simp length-replicate (omega arith)) (omega arith)
    (rw c.if-len-eq-COLUMNS.true c.fill_over.ensures) (omega arith) (sym c.has_bit.ensures ∙ c.if-has_bit.true)

pub returns : goal.returns
returns c =
    over-or (redone-part c.requires (simp length-replicate (omega arith)) c.place-2.ensures c.fill_columns-changed.ensures c.row_bit.ensures _ refl)
    c.args.known
