-- What is ignored leaves all; the others move the cursor and make an edit.
use Rattle.ground.proofs.Cases.{told}
use Rattle.dispatch.proofs.TouchLaws.{ignored-touch, heard-touch}
use Rattle.dispatch.proofs.touches.sequence_touch.Goals as goal

pub returns-then-touch_ignored : goal.returns-then-touch_ignored
returns-then-touch_ignored c s p q =
    let ignored = told c.touch_ignored.ensures c.if-touch_ignored.true in
    rw c.untouched.ensures (ignored-touch c.args.core s _ c.requires.1 (rw p ignored))

pub returns : goal.returns
returns c s p q =
    let heard = told c.touch_ignored.ensures c.if-touch_ignored.false in
    rw (c.heard_touch.ensures, ← p, ← q) (heard-touch c.args.core s _ c.requires.1 (rw p heard))
