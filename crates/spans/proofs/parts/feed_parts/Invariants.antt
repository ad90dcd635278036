-- The loop keeps `Spanned`: the bytes so far were done, and moved these parts alone; and the pen is that of the rendition.
use Rattle.std.proofs.Common.{◌≡◌, ◌-◌, length}
use Rattle.core_state.specs.Pens.{pen_of}
use Rattle.spans.specs.Spans.{Spanned}
use Rattle.spans.specs.Parts.{with_parts}
use Rattle.spans.proofs.parts.feed_parts.Given as goal

abbrev pub invariant-loop-parts : goal.invariant-loop-parts
invariant-loop-parts l =
    let parts = l.parts in
    Spanned l.core l.changed l.initial.page l.input l.from parts.next (with_parts l.core parts.cursor parts.rendition parts.parser) parts.changed l.page
    × (l.pen ≡ pen_of parts.rendition l.core.protected l.core.sets)

abbrev pub decreases-loop-parts : goal.decreases-loop-parts
decreases-loop-parts l = length l.input - l.parts.next
