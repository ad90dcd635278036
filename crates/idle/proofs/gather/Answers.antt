use mathlib.Core.Path.{◌≡◌, refl, sym, ap, ◌∙◌}
use mathlib.Core.Bool.{false}
use mathlib.Core.List.{List}
use Prim.Native.Nat.{ℕ, ◌+◌, ◌<◌}
use native.Mathlib.Nat.{zero-max}
use native.Mathlib.Omega.{arith}
use lib.Dec.{ltb}
use lib.ListN.{length, get_or}
use borrow.Author.Tests.{ne_eqb, lt-ltb, le-ltb}
use Rattle.ground.proofs.TestLaws.{either}
use borrow.Author.Rules.{rules}
use Rattle.parser.specs.declared.phases.Phase.TheVariants.{CsiParam}
use Rattle.parser.specs.declared.params.Params.{Params}
use Rattle.parser.specs.Params.{with_digit, joins, with_joined, with_next}
use Rattle.parser.specs.Parser.{mark_after, gathered}
use Rattle.idle.specs.Idle.{gathers, Separated, Skipped}
use Rattle.idle.proofs.IdleLaws.{there, skipped-none, skipped-parameter, skipped-mark}
use Rattle.idle.proofs.gather.Goals as goal
use Rattle.idle.proofs.gather.Goals.{In-loop-phase, Joined-byte-at, then-byte-at, else-byte-at}
use Rattle.idle.proofs.gather.Invariants.{so_far}

pub loop-phase-init : goal.loop-phase-init
loop-phase-init c = (search rules, search rules, c.requires.1, skipped-none _ _ _ c.requires.0)

-- the byte that was tested is there
here : (c : In-loop-phase) → c.loop-phase.i < length c.args.input.now
here c =
    let now = c.loop-phase in
    let input = c.args.input.now in
    there input now.i (gathers now.phase (get_or input now.i 0)) (sym c.gathers_at.ensures ∙ c.loop-phase-test.true)

-- and one more is gathered with it
more : (c : In-loop-phase)
    → let now = c.loop-phase in
    let a = c.args in
    let byte = get_or a.input.now now.i 0 in
    byte < 0x3C
    → Skipped a.parser a.input.now a.from
    (record {
      parser = gathered CsiParam (so_far a.parser now.phase now.mark now.separators now.values) byte;
      next = now.i + 1;
    })
more c h =
    let held = c.loop-phase.invariant in
    skipped-parameter held.3 held.2 (sym c.gathers_at.ensures ∙ c.loop-phase-test.true) h

-- a digit joins nothing
no_join : (q : Params) (b : ℕ) → b < 0x3A → joins q b ≡ false
no_join q b h = rw (ne_eqb b 0x3A (omega arith))

-- 3A and 3B leave as many values
next-long : (q : Params) (v : ℕ) → length (with_next q v).values ≡ length q.values
unfolding with_next
next-long q v = either (λ (p : Params). length p.values ≡ length q.values) (ltb q.separators 15) (λ _. search rules) (λ _. refl)

joined-long : (q : Params) (b : ℕ) → length (with_joined q b).values ≡ length q.values
unfolding with_joined
joined-long q b = either (λ (p : Params). length p.values ≡ length q.values) (joins q b) (λ _. search rules) (λ _. refl)

long : (old new : List ℕ) (n b r : ℕ) → Separated old new n b r → length old ≡ 16 → length new ≡ 16
long old new n b r e h = ap (λ (q : Params). length q.values) e ∙ next-long _ _ ∙ joined-long _ b ∙ h

-- 3A or 3B: the mark where the two meet
mark-is : (c : Joined-byte-at)
    → let now = c.loop-phase in
    let a = c.args in
    c.if-byte-at.mark
    ≡ mark_after (so_far a.parser now.phase now.mark now.separators now.values) (get_or a.input.now now.i 0)
mark-is c =
    elim c.if-byte-at.branch [
      | then-byte-at w ↦ rw (w.if-byte-at.true, w.mark-is) w.joined_mark-mark.ensures
      | else-byte-at w ↦ rw (w.if-byte-at.false, w.mark-is)
    ]

pub bounds-input-i : goal.bounds-input-i
unfolding with_digit with_next
bounds-input-i c = here (goal.at.bounds-input-i c).In-loop-phase

pub loop-phase-smaller-then-at-lt16 : goal.loop-phase-smaller-then-at-lt16
unfolding with_digit with_next
loop-phase-smaller-then-at-lt16 c = omega (arith, here (goal.at.loop-phase-smaller-then-at-lt16 c).In-loop-phase)

pub loop-phase-preserved-then-at-lt16 : goal.loop-phase-preserved-then-at-lt16
unfolding with_digit with_next
loop-phase-preserved-then-at-lt16 c =
    let low = c.if-byte-lt58.true in
    let taken = rw (no_join _ _ low, lt-ltb _ _ low, lt-ltb _ _ c.if-at-lt16.true) at (more (goal.at.loop-phase-preserved-then-at-lt16 c).In-loop-phase (omega arith)) in
    (search rules, search rules, refl, rw (c.appended.ensures, c.back.ensures, zero-max) taken)

pub loop-phase-smaller-else-at-lt16 : goal.loop-phase-smaller-else-at-lt16
unfolding with_digit with_next
loop-phase-smaller-else-at-lt16 c = omega (arith, here (goal.at.loop-phase-smaller-else-at-lt16 c).In-loop-phase)

pub loop-phase-preserved-else-at-lt16 : goal.loop-phase-preserved-else-at-lt16
unfolding with_digit with_next
loop-phase-preserved-else-at-lt16 c =
    let low = c.if-byte-lt58.true in
    let taken = rw (no_join _ _ low, lt-ltb _ _ low, le-ltb _ _ c.if-at-lt16.false) at (more (goal.at.loop-phase-preserved-else-at-lt16 c).In-loop-phase (omega arith)) in
    (search rules, search rules, refl, taken)

pub loop-phase-smaller-then-byte-gt59 : goal.loop-phase-smaller-then-byte-gt59
unfolding with_digit with_next
loop-phase-smaller-then-byte-gt59 c = omega (arith, here (goal.at.loop-phase-smaller-then-byte-gt59 c).In-loop-phase)

pub loop-phase-preserved-then-byte-gt59 : goal.loop-phase-preserved-then-byte-gt59
unfolding with_digit with_next
loop-phase-preserved-then-byte-gt59 c =
    let held = c.loop-phase.invariant in
    let marked = skipped-mark held.3 (sym c.gathers_at.ensures ∙ c.loop-phase-test.true) c.if-byte-gt59.true in
    (search rules, search rules, refl, rw (c.pick-mark.ensures, c.joined_mark.ensures, c.is_joined.ensures) marked)

pub loop-phase-smaller : goal.loop-phase-smaller
unfolding with_digit with_next
loop-phase-smaller c = omega (arith, here (goal.at.loop-phase-smaller c).In-loop-phase)

pub loop-phase-preserved : goal.loop-phase-preserved
unfolding with_digit with_next
loop-phase-preserved c =
    let low = c.if-byte-gt59.false in
    let next = rw (le-ltb _ _ c.if-byte-lt58.false, ← mark-is (goal.at.loop-phase-preserved c).Joined-byte-at, ← c.separate-separators.ensures)
    at (more (goal.at.loop-phase-preserved c).In-loop-phase (omega arith)) in
    (search rules, long _ _ _ _ _ c.separate-separators.ensures (search rules), refl, next)

pub returns : goal.returns
unfolding with_digit with_next
returns c = rw c.with_params.ensures c.loop-phase.invariant.3
