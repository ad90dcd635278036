-- `pankholim::by_value::feed` meets its contract: a plain record may take the input in place; else it is refused by the tests of the record, page and
-- line, or fed as the call by value does.
use mathlib.Core.Path.{◌≡◌, sym, ◌∙◌}
use mathlib.Core.Bool.{true}
use Rattle.ground.proofs.TestLaws.{and_left, and_right}
use Rattle.steps.specs.Steps.{buffers}
use Rattle.steps.specs.Whole.{whole_state, right_sizes}
use Rattle.record.specs.Plain.{plain}
use Rattle.record.specs.Record.{state_of}
use Rattle.record.proofs.PlainLaws.{plain-whole}
use Rattle.record.proofs.EmptiedLaws.{named-with, whole-named}
use Rattle.std.proofs.Common.{rules}
use Rattle.terminal.proofs.CallLaws.{whole-passed}
use Rattle.inplace.proofs.PlaceLaws.{taking}
use Rattle.pankholim.proofs.CallLaws.{feed-broken, feed-sized, feed-takes, feed-done}
use Rattle.pankholim.proofs.by_value.feed.Goals as goal
use Rattle.pankholim.proofs.by_value.feed.Goals.{Joined-not-plain, Then-plain-right, Then-takes, then-not-plain+in_ok-check_record, else-not-plain}

-- ---- in place

plainly : (c : Then-plain-right) → plain c.args.terminal ≡ true
plainly c = sym c.is_plain-plain.ensures ∙ and_left c.is_plain-plain.result _ c.if-plain-right.true

fits : (c : Then-plain-right) → right_sizes c.args.terminal.rows (buffers c.args.page.now c.args.line.now) ≡ true
fits c = and_right c.is_plain-plain.result _ c.if-plain-right.true

pub moved-requires : goal.moved-requires
moved-requires c =
    let a = c.args in
    (plainly (goal.at.moved-requires c).Then-plain-right, (taking a.terminal a.input.now (sym c.takes.ensures ∙ c.if-takes.true)).room)

-- ---- by its state

pub returns-in_err-check_record : goal.returns-in_err-check_record
returns-in_err-check_record c = search (rules, feed-broken)

whole : (c : Joined-not-plain) → whole_state (state_of c.args.terminal) ≡ true
whole c =
    elim c.if-not-plain.branch [
      | then-not-plain+in_ok-check_record w ↦ whole-passed (state_of c.args.terminal) tt w.in_ok-check_record.ensures
      | else-not-plain n ↦ plain-whole c.args.terminal (sym c.is_plain-plain.ensures ∙ n.if-not-plain.false)
    ]

-- the state, once the record is known to be whole
is_state : (c : Joined-not-plain) → c.state_with-state.result ≡ state_of c.args.terminal
is_state c =
    let t = c.args.terminal in
    c.state_with-state.ensures ∙ named-with t (whole-named t (whole c))

pub returns-then-not-right : goal.returns-then-not-right
returns-then-not-right c =
    let a = c.args in
    feed-sized a.terminal (buffers a.page.now a.line.now) a.input.now a.reply.now (whole (goal.at.returns-then-not-right c).Joined-not-plain) c.if-not-right.true

pub feed_whole-done-requires : goal.feed_whole-done-requires
feed_whole-done-requires c =
    let a = c.args in
    feed-takes a.terminal (buffers c.args.page.now c.args.line.now) a.input.now a.reply.now _ (is_state (goal.at.feed_whole-done-requires c).Joined-not-plain) (whole (goal.at.feed_whole-done-requires c).Joined-not-plain) (c.if-not-right.false)

pub returns : goal.returns
returns c =
    let a = c.args in
    feed-done a.terminal _ (buffers a.page.now a.line.now) a.input.now a.reply.now c.feed_whole-done.result _ _ _
    (is_state (goal.at.returns c).Joined-not-plain) c.feed_whole-done.ensures c.record_of.ensures
