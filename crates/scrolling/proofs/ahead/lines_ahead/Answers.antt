use mathlib.Core.Path.{sym, ◌∙◌}
use native.Mathlib.Omega.{arith}
use Prim.Native.Nat.{◌+◌}
use Rattle.std.proofs.lemmas.List.{length-take-le}
use Rattle.std.specs.Slice.Iter.{chunks_exact_rest}
use Rattle.scrolling.proofs.TextLaws.{Taken, taken-none, taken-more}
use Rattle.scrolling.proofs.ahead.lines_ahead.Goals as goal
use Rattle.scrolling.proofs.ahead.lines_ahead.Goals.{Else-most-feeds}

-- one block more
more : (c : Else-most-feeds)
    → Taken c.args.input.now (chunks_exact_rest c.next.new.self) c.args.most (c.loop-block.feeds + c.feeds_in-more.result) (c.loop-block.len + 16)
more c =
    let cut = c.in-Some.ensures.steps.1 in
    taken-more c.in-Some.block.now c.loop-block.invariant.1 cut.0 (cut.1 ∙ c.loop-block.invariant.0) (sym c.if-not-text_block.ensures) c.feeds_in-more.ensures.1
    c.if-most-feeds.false

pub loop-block-init : goal.loop-block-init
loop-block-init c =
    rw (c.into_iter-block-iterator.ensures.into_iter_gives, c.chunks_exact-block-items.ensures.rest)
    (c.chunks_exact-block-items.ensures.size, taken-none c.args.input.now c.args.most)

pub loop-block-preserved : goal.loop-block-preserved
loop-block-preserved c = (c.in-Some.ensures.steps.0 ∙ c.loop-block.invariant.0, more (goal.at.loop-block-preserved c).Else-most-feeds)

pub overflow_add-feeds : goal.overflow_add-feeds
overflow_add-feeds c = omega (arith, c.loop-block.invariant.1.few, c.feeds_in-more.ensures.0)

pub overflow_add-len : goal.overflow_add-len
overflow_add-len c = let m = more (goal.at.overflow_add-len c).Else-most-feeds in omega (arith, m.inside, c.well_formed)

pub slice_bounds-result-end : goal.slice_bounds-result-end
slice_bounds-result-end c = sym (length-take-le c.loop-block.len c.args.input.now c.loop-block.invariant.1.inside)

pub invariant_of-result : goal.invariant_of-result
invariant_of-result c = record { plain = c.loop-block.invariant.1.text; counted = c.loop-block.invariant.1.counted }

pub returns-clause-few : goal.returns-clause-few
returns-clause-few c = c.loop-block.invariant.1.few
