-- The cells that `trimmed` leaves have the signs of the line.
use mathlib.Core.Path.{ap}
use mathlib.Core.List.{List}
use Prim.Native.Nat.{ℕ}
use native.Mathlib.Omega.{arith}
use lib.ListN.{length}
use Rattle.text.specs.Text.{encoded}
use Rattle.text.proofs.TextLaws.{line-length, line-short}
use Rattle.text.proofs.lines.line_len.Goals as goal

abbrev size : List ℕ → ℕ
size xs = length (encoded xs)

pub overflow_add-result : goal.overflow_add-result
overflow_add-result c =
    let row = c.args.row.now in
    omega (arith, c.signs_len.ensures, ap size c.trimmed.ensures, line-length row, line-short row)

pub returns : goal.returns
returns c = omega (arith, c.signs_len.ensures, ap size c.trimmed.ensures, line-length c.args.row.now)
