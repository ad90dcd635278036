use mathlib.Core.Path.{sym}
use native.Mathlib.Omega.{arith}
use lib.ListN.{length-replicate, get_or-replicate, replicate}
use Rattle.cells.proofs.Storing.{paste-up}
use Rattle.cells.proofs.segments.fill_over.Goals as goal

pub loop-k-preserved : goal.loop-k-preserved
loop-k-preserved c =
    let a = c.args in
    let put = sym (get_or-replicate 80 c.loop-k.k a.word 0 (omega arith)) in
    paste-up a.page.now _ a.to (replicate 80 a.word) c.loop-k.k _ c.loop-k.invariant (omega arith) (simp length-replicate (omega arith)) put
