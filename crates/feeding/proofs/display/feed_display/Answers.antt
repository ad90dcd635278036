use Rattle.std.proofs.Common.{not, eqb, refl, arith}
use borrow.Author.Tests.{eqb-false, not-true}
use Rattle.ground.proofs.TestLaws.{and_right}
use Rattle.spans.specs.Parts.{with_parts}
use Rattle.feeding.proofs.DisplayLoop.{Running, running_none, running-span, running_more, running-ran}
use Rattle.feeding.proofs.display.feed_display.Goals as goal
use Rattle.feeding.proofs.display.feed_display.Goals.{After-feed_parts-done}

-- the round's bytes that move parts are done
spans : (c : After-feed_parts-done) →
    let a = c.args in
    let r = c.feed_parts-done.result in
    Running a.core a.changed a.page.now a.input.now r.next
    (with_parts c.loop-i.core r.cursor r.rendition r.parser) r.changed c.loop-i.lasting c.feed_parts-done.new.page
spans c =
    let r = c.feed_parts-done.result in
    running-span c.loop-i.invariant r.next _ r.changed c.feed_parts-done.new.page c.feed_parts-done.ensures

pub returns-then-interrupts-i : goal.returns-then-interrupts-i
returns-then-interrupts-i c =
    let next = c.feed_parts-done.result.next in
    let there = not-true (eqb next 0) (and_right c.interrupts.result (not (eqb next 0)) c.if-interrupts-i.true) in
    running-ran (spans (goal.at.returns-then-interrupts-i c).After-feed_parts-done) (λ _. omega (arith, eqb-false next 0 there))

pub loop-i-preserved-then-i-input : goal.loop-i-preserved-then-i-input
loop-i-preserved-then-i-input c =
    running_more (spans (goal.at.loop-i-preserved-then-i-input c).After-feed_parts-done) c.if-i-input.true _ refl (rw c.interrupts.ensures at c.if-interrupts-i.false) c.step-after.result
    c.step-after.new.page c.step-after.ensures

pub returns : goal.returns
returns c =
    running-ran c.loop-i.invariant (λ h. omega (arith, c.loop-i-test.false))

pub loop-i-preserved : goal.loop-i-preserved
loop-i-preserved c = spans (goal.at.loop-i-preserved c).After-feed_parts-done

pub loop-i-init : goal.loop-i-init
loop-i-init c = running_none _ _ _ _ c.requires
