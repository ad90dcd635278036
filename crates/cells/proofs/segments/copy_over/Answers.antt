use mathlib.Core.Path.{◌≡◌, sym, ◌∙◌}
use mathlib.Core.Logic.{inl, inr, ⊎_elim}
use native.Mathlib.Omega.{arith}
use lib.ListN.{length, length-drop, get_or, drop}
use lib.Seq.{get_or-drop}
use Prim.Native.Nat.{◌+◌, ◌<◌}
use Rattle.ground.proofs.ListLaws.{paste-outside}
use Rattle.cells.proofs.Storing.{paste-up}
use Rattle.cells.proofs.segments.copy_over.Goals as goal

pub loop-k-preserved : goal.loop-k-preserved
loop-k-preserved c =
    let a = c.args in
    let p = a.page.now in
    let k = c.loop-k.k in
    let so_far = c.loop-k.invariant in
    let has : k < length (drop a.from p) = simp length-drop (omega arith) in
    let read : get_or c.loop-k.page (a.from + k) 0 ≡ get_or (drop a.from p) k 0 =
    rw so_far (paste-outside p a.to (drop a.from p) k (omega arith) (omega arith) (a.from + k)
    (⊎_elim (λ b. inr (omega arith)) (λ b. inl (omega arith)) c.requires.2))
    ∙ sym (get_or-drop a.from p k 0) in
    paste-up p _ a.to (drop a.from p) k _ so_far (omega arith) has read
