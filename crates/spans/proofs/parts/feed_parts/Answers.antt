use Rattle.std.proofs.Common.{sym, refl, ◌∙◌}
use Rattle.spans.specs.Spans.{Spanned}
use Rattle.spans.specs.Parts.{with_parts}
use Rattle.spans.proofs.SpannedLaws.{spanned-none, spanned-append, spanned-more, spanned-idle}
use Rattle.spans.proofs.SequenceLaws.{rendition-done}
use Rattle.spans.proofs.parts.feed_parts.Goals as goal
use Rattle.spans.proofs.parts.feed_parts.Goals.{After-skip_idle-idle, then-is_touch, else-is_touch+then-last-eq-SGR}

pub loop-parts-init : goal.loop-parts-init
loop-parts-init c =
    (spanned-none _ _ _ _ _ c.requires.0 c.requires.1, c.pen_of-pen.ensures)

-- ---- bytes in ground

pub act_directly-done-requires : goal.act_directly-done-requires
act_directly-done-requires c =
    rw c.with_parts.ensures
    (c.loop-parts.invariant.0.paged, c.loop-parts-test.true, rw c.with_parts.ensures at (sym c.acts_directly.ensures ∙ c.if-acts_directly.true))

pub loop-parts-preserved-then-acts_directly : goal.loop-parts-preserved-then-acts_directly
loop-parts-preserved-then-acts_directly c =
    (spanned-append c.loop-parts.invariant.0 (rw c.with_parts.ensures at c.act_directly-done.ensures.0), c.loop-parts.invariant.1)

-- ---- bytes that only move the parser

idled : (c : After-skip_idle-idle) → let a = c.args in
    Spanned a.core a.changed a.page.now a.input.now a.from c.skip_idle-idle.result.next
    (with_parts a.core c.loop-parts.parts.cursor c.loop-parts.parts.rendition c.skip_idle-idle.result.parser) c.loop-parts.parts.changed c.loop-parts.page
idled c =
    spanned-append c.loop-parts.invariant.0 (spanned-idle _ _ _ _ _ c.skip_idle-idle.result c.loop-parts.invariant.0.paged c.skip_idle-idle.ensures)

pub loop-parts-preserved : goal.loop-parts-preserved
loop-parts-preserved c = (idled (goal.at.loop-parts-preserved c).After-skip_idle-idle, c.loop-parts.invariant.1)

-- ---- the end of a sequence that moves the cursor and cells, and SGR

pub sequence_step-done-requires : goal.sequence_step-done-requires
sequence_step-done-requires c =
    rw c.with_parts-then-is_touch.ensures
    ((idled (goal.at.sequence_step-done-requires c).After-skip_idle-idle).paged, sym c.in_plain_sequence.ensures ∙ c.if-not-in_plain_sequence.false, sym c.is_touch.ensures ∙ c.if-is_touch.true)

pub loop-parts-preserved-then-parts-input : goal.loop-parts-preserved-then-parts-input
loop-parts-preserved-then-parts-input c =
    let all = idled (goal.at.loop-parts-preserved-then-parts-input c).After-skip_idle-idle in
    elim c.if-is_touch.branch [
      | then-is_touch w ↦ (
        rw (c.in_phase-parts.ensures, w.page-is, w.parts-is)
            (spanned-more all c.if-parts-input.true _ refl (rw w.with_parts-then-is_touch.ensures at w.sequence_step-done.ensures)),
        rw (w.pen-is, w.parts-is) c.loop-parts.invariant.1,
      )
      | else-is_touch+then-last-eq-SGR w ↦ (
        rw (c.in_phase-parts.ensures, w.page-is, w.parts-is, w.rendition_after-next.ensures)
            (spanned-more all c.if-parts-input.true 0x6D (sym w.if-last-eq-SGR.true)
            (rendition-done _ _ _ all.paged (sym c.in_plain_sequence.ensures ∙ c.if-not-in_plain_sequence.false))),
        rw (w.pen-is, w.parts-is) w.pen_of-pen-then-last-eq-SGR.ensures,
      )
    ]

-- ---- any other

pub returns-then-not-in_plain_sequence : goal.returns-then-not-in_plain_sequence
returns-then-not-in_plain_sequence c = idled (goal.at.returns-then-not-in_plain_sequence c).After-skip_idle-idle

pub returns-else-last-eq-SGR : goal.returns-else-last-eq-SGR
returns-else-last-eq-SGR c = idled (goal.at.returns-else-last-eq-SGR c).After-skip_idle-idle

pub returns : goal.returns
returns c = c.loop-parts.invariant.0
