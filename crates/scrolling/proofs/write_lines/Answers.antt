use native.Mathlib.Omega.{arith}
use Rattle.scrolling.proofs.WriteLaws.{writing-none, writing-return, writing-feed, writing-run, writing-all, is-character, run-shorter}
use Rattle.scrolling.proofs.write_lines.Goals as goal

pub loop-byte-init : goal.loop-byte-init
loop-byte-init c = writing-none _ c.requires

pub loop-byte-preserved-in-10 : goal.loop-byte-preserved-in-10
loop-byte-preserved-in-10 c = rw c.pick-column.ensures (writing-feed c.loop-byte.invariant c.in-Some.ensures.cases.0 c.in-10.is)

pub loop-byte-preserved-in-13 : goal.loop-byte-preserved-in-13
loop-byte-preserved-in-13 c = writing-return c.loop-byte.invariant c.in-Some.ensures.cases.0 c.in-13.is

pub loop-byte-smaller : goal.loop-byte-smaller
loop-byte-smaller c =
    let W = c.loop-byte.invariant in
    let some = c.put_characters-put.ensures.some (omega (arith, c.min-most.ensures, c.in-Some.ensures.cases.1))
    (rw c.in-Some.ensures.cases.0 (is-character W c.in-Some.ensures.cases.0 (λ e. omega (arith, e)) (λ e. omega (arith, e)))) in
    run-shorter c.put_characters-put.result.count c.loop-byte.rest.now some (omega (arith, c.put_characters-put.ensures.most, c.min-most.ensures))

pub loop-byte-preserved : goal.loop-byte-preserved
loop-byte-preserved c =
    rw c.column_after-column.ensures (writing-run c.loop-byte.invariant c.place.ensures c.min-most.ensures c.put_characters-put.ensures)

pub returns : goal.returns
returns c = writing-all c.loop-byte.invariant c.in_default.ensures.cases
