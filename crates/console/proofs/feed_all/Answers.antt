use Rattle.std.proofs.Common.{arith}
use Rattle.console.proofs.FeedLaws.{going-none, turn-ok, turn-less, turn-next, going-all}
use Rattle.console.proofs.feed_all.Goals as goal

pub loop-from-preserved : goal.loop-from-preserved
loop-from-preserved c =
    let lent = c.requires in
    let kept = c.feed.auto in
    turn-next c.loop-from.invariant _ _ _ lent.1 lent.2 c.loop-from-test.true
    kept.page kept.line kept.reply (rw c.unwrap-fed.ensures at c.feed.ensures.told)

pub overflow_add-from : goal.overflow_add-from
overflow_add-from c =
    let lent = c.requires in
    let kept = c.feed.auto in
    omega (
      arith,
      (turn-next c.loop-from.invariant _ _ _ lent.1 lent.2 c.loop-from-test.true
          kept.page kept.line kept.reply (rw c.unwrap-fed.ensures at c.feed.ensures.told)).within,
    )

pub loop-from-smaller : goal.loop-from-smaller
loop-from-smaller c =
    let lent = c.requires in
    let kept = c.feed.auto in
    turn-less c.loop-from.invariant _ _ _ lent.1 lent.2 c.loop-from-test.true
    kept.page kept.line kept.reply (rw c.unwrap-fed.ensures at c.feed.ensures.told)

pub unwrap-fed-requires : goal.unwrap-fed-requires
unwrap-fed-requires c = turn-ok c.loop-from.invariant _ _ _ c.requires.1 c.feed.ensures.told

pub loop-from-init : goal.loop-from-init
loop-from-init c = search going-none

pub returns : goal.returns
returns c = search going-all
