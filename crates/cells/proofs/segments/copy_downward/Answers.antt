use mathlib.Core.Path.{◌≡◌, refl}
use mathlib.Core.List.{◌∷◌}
use mathlib.Core.Logic.{inl}
use native.Mathlib.Omega.{arith}
use lib.ListN.{length, length-drop, get_or, drop}
use lib.Seq.{drop-cons}
use Prim.Native.Nat.{ℕ, suc, ◌+◌, ◌-◌, ◌≤◌}
use Rattle.cells.proofs.Storing.{pasted-down, pasted-outside}
use Rattle.cells.proofs.segments.copy_downward.Goals as goal

pub loop-k-preserved : goal.loop-k-preserved
loop-k-preserved c =
    let a = c.args in
    let k : ℕ = c.loop-k.k - 1 in
    let P = c.loop-k.invariant in
    let has : a.len - c.loop-k.k ≤ length (drop (a.from + c.loop-k.k) a.page.now) = simp length-drop (omega arith) in
    let stood = pasted-outside P (omega arith) has (a.from + k) (inl (omega arith)) in
    let next : suc (a.from + k) ≡ a.from + c.loop-k.k = omega arith in
    let read : drop (a.from + k) a.page.now ≡ get_or c.loop-k.page (a.from + k) 0 ∷ drop (a.from + c.loop-k.k) a.page.now =
    cc (drop-cons a.page.now (a.from + k) 0 (omega arith), stood, next) in
    pasted-down P _ _ _ _ _ (omega arith) read (omega arith) (omega arith) has refl
