use mathlib.Core.Path.{ap}
use Prim.Native.Nat.{ℕ, ◌+◌}
use native.Mathlib.Omega.{arith}
use lib.ListN.{length}
use Rattle.text.specs.Text.{utf8, encoded}
use Rattle.ground.proofs.WriteLaws.{append_none, append-more}
use Rattle.text.proofs.Encoding.{encoded-more, encoded-more-length, encoded-part}
use Rattle.text.proofs.lines.write_signs.Goals as goal

pub loop-word-init : goal.loop-word-init
unfolding encoded
loop-word-init c = append_none _

pub write_utf8-requires : goal.write_utf8-requires
write_utf8-requires c =
    let cells = c.args.cells.now in
    let k = c.loop-word.word-index in
    let bytes = ap (λ (x : ℕ). length (utf8 x)) c.sign.ensures in
    omega (arith, c.requires, c.loop-word.invariant.wrote, encoded-more-length cells k (omega arith), encoded-part (k + 1) cells)

pub loop-word-preserved : goal.loop-word-preserved
loop-word-preserved c =
    let more = encoded-more c.args.cells.now c.loop-word.word-index (omega arith) in
    rw (more, ← c.sign.ensures) (append-more c.loop-word.invariant c.write_utf8.ensures)
