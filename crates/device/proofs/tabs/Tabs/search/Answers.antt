use mathlib.Core.Path.{◌≡◌, sym, ap, ◌∙◌}
use mathlib.Core.Bool.{Bool, true, false, cond}
use Prim.Native.Nat.{◌+◌, ◌≤◌}
use native.Mathlib.Nat.{add-zero}
use native.Mathlib.Omega.{arith}
use Rattle.device.specs.TabSearch.{after, ends_at, searched}
use Rattle.device.proofs.TabSearchLaws.{after_none, after_more, turn, turn-flag, turn-eight, turn_last, so-few}
use Rattle.device.proofs.tabs.Tabs.search.Goals as goal
use Rattle.device.proofs.tabs.Tabs.search.Goals.{After-get, Joined-at-eq0, then-at-eq0, else-at-eq0}

-- where the two ways meet: the eight that begins here was looked at and is empty, or the next flag is to be looked at
met : (c : Joined-at-eq0)
    → let a = c.args in
    let at = c.loop-at.at in
    after c.if-at-eq0.looks (cond c.if-at-eq0.empty (searched a.self (at + 8)) (turn a.self at)) ≡ searched a.self a.column
met c =
    let self = c.args.self in
    let inside = c.loop-at-test.true in
    elim c.if-at-eq0.branch [
      | then-at-eq0 w ↦ rw (w.looks-is, w.empty-is, w.any-empty.ensures)
          (turn-eight self c.loop-at.at inside w.if-at-eq0.true c.loop-at.looks ∙ c.loop-at.invariant)
      | else-at-eq0 w ↦ rw (w.looks-is, w.empty-is)
          (ap (after c.loop-at.looks) (sym (turn-flag self c.loop-at.at inside w.if-at-eq0.false)) ∙ c.loop-at.invariant)
    ]

-- the flag was looked at
flagged : (c : After-get) (b : Bool) → c.get.result ≡ b
    → let self = c.args.self in
    let at = c.loop-at.at in
    after (c.if-at-eq0.looks + 1) (cond b (ends_at (at + 1)) (searched self (at + 1))) ≡ searched self c.args.column
flagged c b e =
    sym (after_more c.if-at-eq0.looks 1 _) ∙ rw (c.if-empty.false, ← c.get.ensures, e) at (met c.before.before.before)

few : (c : Joined-at-eq0) → c.if-at-eq0.looks ≤ 24
few c = so-few _ _ c.if-at-eq0.looks _ (met c)

pub loop-at-init : goal.loop-at-init
loop-at-init c = after_none _

pub overflow_add-looks : goal.overflow_add-looks
overflow_add-looks c = record { fits = omega (arith, so-few _ _ c.loop-at.looks _ c.loop-at.invariant) }

pub loop-at-preserved-then-empty : goal.loop-at-preserved-then-empty
loop-at-preserved-then-empty c = rw c.if-empty.true at (met (goal.at.loop-at-preserved-then-empty c).Joined-at-eq0)

pub overflow_add-looks-else-empty : goal.overflow_add-looks-else-empty
overflow_add-looks-else-empty c = record { fits = omega (arith, few (goal.at.overflow_add-looks-else-empty c).Joined-at-eq0) }

pub returns-then-get : goal.returns-then-get
returns-then-get c = rw add-zero at (flagged (goal.at.returns-then-get c).After-get true c.if-get.true)

pub loop-at-preserved : goal.loop-at-preserved
loop-at-preserved c = flagged (goal.at.loop-at-preserved c).After-get false c.if-get.false

pub returns : goal.returns
returns c = rw add-zero at (ap (after c.loop-at.looks) (sym (turn_last _ _ c.loop-at-test.false)) ∙ c.loop-at.invariant)
