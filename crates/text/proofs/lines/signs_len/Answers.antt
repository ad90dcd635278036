use mathlib.Core.Path.{refl, ap}
use Prim.Native.Nat.{ℕ}
use native.Mathlib.Omega.{arith}
use lib.ListN.{length}
use Rattle.text.specs.Text.{utf8, encoded}
use Rattle.text.proofs.Encoding.{encoded-more-length, utf8-short, signs-short}
use Rattle.text.proofs.lines.signs_len.Goals as goal

pub loop-word-init : goal.loop-word-init
unfolding encoded
loop-word-init c = refl

pub overflow_add-len : goal.overflow_add-len
overflow_add-len c = omega (arith, signs-short c.args.cells.now c.loop-word.word-index, utf8-short c.sign.result)

pub loop-word-preserved : goal.loop-word-preserved
loop-word-preserved c =
    let more = encoded-more-length c.args.cells.now c.loop-word.word-index (omega arith) in
    let bytes = ap (λ (x : ℕ). length (utf8 x)) c.sign.ensures in
    omega (arith, c.utf8_len-len.ensures)
