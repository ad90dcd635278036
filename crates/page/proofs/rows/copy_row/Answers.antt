-- The row is copied. Where it is known to have changed, its bit is there; else the flag is the row's bit.
use mathlib.Core.Path.{refl, sym, ◌∙◌}
use native.Mathlib.Omega.{arith}
use lib.ListN.{length-drop, drop}
use Rattle.page.proofs.Redoing.{redone-part}
use Rattle.page.proofs.KnownRows.{over-or, over-known}
use Rattle.page.proofs.rows.copy_row.Goals as goal

pub returns-then-has_bit : goal.returns-then-has_bit
returns-then-has_bit c =
    over-known c.args.at (drop c.args.source c.args.page.now) c.requires.0 (simp length-drop (omega arith)) (omega arith) c.copy_over.ensures
    (omega arith) (sym c.has_bit.ensures ∙ c.if-has_bit.true)

pub returns : goal.returns
returns c =
    over-or (redone-part c.requires.0 (simp length-drop (omega arith)) (omega arith) c.copy_columns-changed.ensures c.row_bit.ensures _ refl)
    c.args.known
