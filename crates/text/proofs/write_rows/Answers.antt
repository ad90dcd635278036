use mathlib.Core.Path.{ap}
use mathlib.Core.List.{List}
use Prim.Native.Nat.{ℕ, ◌+◌, ◌/◌}
use native.Mathlib.Omega.{arith}
use lib.ListN.{length}
use Rattle.text.specs.Text.{line, lines, text_of}
use Rattle.ground.proofs.WriteLaws.{append_none, append-more}
use Rattle.text.proofs.TextLaws.{text-more, text-more-length, text-part}
use Rattle.text.proofs.write_rows.Goals as goal

pub loop-k-init : goal.loop-k-init
unfolding lines text_of
loop-k-init c = append_none _

pub write_line-requires : goal.write_line-requires
write_line-requires c =
    let page = c.args.page.now in
    let k = c.loop-k.k in
    let line-is = ap (λ (r : List ℕ). length (line r)) c.row_of.ensures in
    let room = text-part (k + 1) (length page / 80) page (omega arith) in
    omega (arith, c.requires, c.loop-k.invariant.wrote, text-more-length k page)

pub loop-k-preserved : goal.loop-k-preserved
loop-k-preserved c =
    let more = append-more c.loop-k.invariant c.write_line.ensures in
    rw (text-more, ← c.row_of.ensures) more
