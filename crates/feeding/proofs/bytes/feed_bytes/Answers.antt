use Rattle.std.proofs.Common.{◌≡◌, ◌&&◌, not, eqb, refl}
use Rattle.std.proofs.Math.Bool.{or_comm}
use Rattle.steps.proofs.ByteLaws.{wrap-lasts}
use Rattle.feeding.proofs.TurnLaws.{view-paged, line-turned, page-turned}
use Rattle.feeding.proofs.FeedLoop.{fed-none, fed-turn, fed-full, fed-done}
use Rattle.feeding.proofs.bytes.feed_bytes.Goals as goal
use Rattle.feeding.proofs.bytes.feed_bytes.Goals.{At-loop-read}

-- a wrap due of the line lasts
due : (c : At-loop-read) → (c.loop-read.line.wrap && c.loop-read.core.modes.autowrap) ≡ c.loop-read.line.wrap
due c = wrap-lasts c.loop-read.line.wrap c.loop-read.line.column c.loop-read.core.modes.autowrap c.loop-read.invariant.ready.whole.displays.line.wrap

pub loop-read-init : goal.loop-read-init
loop-read-init c = fed-none _ _ _ _ c.requires.0 c.requires.1

-- ---- the reply does not fit

pub returns-in_default : goal.returns-in_default
returns-in_default c =
    rw c.ended.ensures (fed-full c.loop-read.invariant c.loop-read-test.true _ refl c.heed.new.reply c.in_default.ensures)

-- ---- on the line

pub feed_display-run-requires : goal.feed_display-run-requires
feed_display-run-requires c =
    let inv = c.loop-read.invariant in
    rw c.line_view.ensures (view-paged _ _ inv.ready.whole.displays inv.line-size)

pub loop-read-preserved-then-line-leaves_line : goal.loop-read-preserved-then-line-leaves_line
loop-read-preserved-then-line-leaves_line c =
    let l = c.loop-read in
    rw (or_comm l.tracked.flag (not (eqb c.feed_display-run.result.changed 0)))
    (fed-turn l.invariant c.loop-read-test.true _ refl c.in-Some.heeded.replied c.heed.new.reply c.in-Some.ensures.1 1 _ _
    (line-turned _ l.read c.loop-read-test.true l.core l.line l.tracked l.page l.cells _ refl c.in-Some.heeded.action c.in-Some.ensures.0
    (rw c.leaves_line.ensures at c.if-line-leaves_line.true) c.feed_display-run.result c.feed_display-run.new.page
    (rw c.line_view.ensures at c.feed_display-run.ensures) c.page_behind-core.result c.page_behind-core.ensures
    c.line_behind.result c.tell_line-line.result c.line_behind.ensures (rw c.get-selector.ensures at c.tell_line-line.ensures)))

-- ---- on the page

pub loop-read-preserved : goal.loop-read-preserved
loop-read-preserved c =
    let l = c.loop-read in
    rw (or_comm l.tracked.flag c.blank_line.result)
    (fed-turn l.invariant c.loop-read-test.true _ refl c.in-Some.heeded.replied c.heed.new.reply c.in-Some.ensures.1
    c.feed_display-run-else-line-leaves_line.result.read _ _
    (page-turned _ l.read c.loop-read-test.true l.core l.line l.tracked l.page l.cells _ refl c.in-Some.heeded.action c.in-Some.ensures.0
    (rw c.leaves_line.ensures at c.if-line-leaves_line.false) (due (goal.at.loop-read-preserved c).At-loop-read) c.turn_end-end.result (rw c.tells_line.ensures at c.turn_end-end.ensures)
    c.feed_display-run-else-line-leaves_line.result c.feed_display-run-else-line-leaves_line.new.page c.feed_display-run-else-line-leaves_line.ensures
    c.line_beside.result c.tell_line-line-else-line-leaves_line.result c.line_beside.ensures (rw c.get-selector.ensures at c.tell_line-line-else-line-leaves_line.ensures)
    c.blank_line.new.cells c.blank_line.ensures.0 c.blank_line.result c.blank_line.ensures.1))

pub returns : goal.returns
returns c = rw c.ended-2.ensures (fed-done c.loop-read.invariant c.loop-read-test.false)
