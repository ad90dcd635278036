use mathlib.Core.Path.{◌≡◌, refl, sym, ◌∙◌}
use mathlib.Core.Logic.{inl, inr, ⊎_elim}
use native.Mathlib.Omega.{arith}
use lib.ListN.{length, length-drop, get_or, drop}
use lib.Seq.{get_or-drop}
use Prim.Native.Nat.{◌+◌, ◌<◌}
use Rattle.cells.proofs.Storing.{pasted-up, pasted-outside}
use Rattle.cells.proofs.segments.copy_upward.Goals as goal

pub loop-k-preserved : goal.loop-k-preserved
loop-k-preserved c =
    let a = c.args in
    let k = c.loop-k.k in
    let P = c.loop-k.invariant in
    let has : k < length (drop a.from a.page.now) = simp length-drop (omega arith) in
    let read : get_or c.loop-k.page (a.from + k) 0 ≡ get_or (drop a.from a.page.now) k 0 =
    pasted-outside P (omega arith) (omega arith) (a.from + k) (⊎_elim (λ b. inr (omega arith)) (λ b. inl (omega arith)) c.requires.2)
    ∙ sym (get_or-drop a.from a.page.now k 0) in
    pasted-up P _ _ (omega arith) has read refl
