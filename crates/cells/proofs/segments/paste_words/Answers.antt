use mathlib.Core.Path.{refl}
use mathlib.Core.Logic.{inr}
use native.Mathlib.Omega.{arith}
use Prim.Native.Nat.{◌+◌}
use Rattle.cells.proofs.Storing.{pasted-up, pasted-outside}
use Rattle.cells.proofs.segments.paste_words.Goals as goal

pub loop-k-preserved : goal.loop-k-preserved
loop-k-preserved g c s hs h =
    let a = c.args in
    let k = c.loop-k.k in
    let P = c.loop-k.invariant s hs h in
    let stood = pasted-outside P (omega arith) (omega arith) (a.to + k) (inr (omega arith)) in
    pasted-up P _ _ (omega arith) (omega arith) (h k _ c.loop-k-test.true (rw stood at c.word-new.ensures)) refl
