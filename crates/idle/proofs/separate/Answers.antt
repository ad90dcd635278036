-- Each way is the definition's, by the tests on the byte and the separators.
use mathlib.Core.Path.{◌≡◌}
use native.Mathlib.Omega.{arith}
use lib.Dec.{eqb}
use borrow.Author.Tests.{ltb-true, lt-ltb, le-ltb}
use Rattle.parser.specs.declared.params.Params.{Params}
use Rattle.parser.specs.Params.{with_joined, with_next}
use Rattle.ground.proofs.TestLaws.{and_right}
use Rattle.idle.proofs.separate.Goals as goal
use Rattle.idle.proofs.separate.Goals.{Joined-byte-at, then-byte-at, else-byte-at}

-- where the two ways meet, the values are those with what 3A joins
met : (c : Joined-byte-at)
    → let a = c.args in
    let joined : Params = record { separators = a.separators; values = c.if-byte-at.values } in
    let q : Params = record { separators = a.separators; values = a.values.now } in
    joined ≡ with_joined q a.byte
unfolding with_joined
met c =
    elim c.if-byte-at.branch [
      | then-byte-at w ↦ rw (w.if-byte-at.true, w.values-is)
      | else-byte-at w ↦ rw (w.if-byte-at.false, w.values-is)
    ]

pub bounds-values-at : goal.bounds-values-at
unfolding with_next
bounds-values-at c = omega (arith, ltb-true c.args.separators 16 (and_right (eqb c.args.byte 0x3A) _ c.if-byte-at.true))

pub returns-then-at-lt15 : goal.returns-then-at-lt15
unfolding with_next
returns-then-at-lt15 c = rw (← met (goal.at.returns-then-at-lt15 c).Joined-byte-at, ← c.opened.ensures, lt-ltb _ _ c.if-at-lt15.true)

pub returns-else-at-lt15 : goal.returns-else-at-lt15
unfolding with_next
returns-else-at-lt15 c = rw (← met (goal.at.returns-else-at-lt15 c).Joined-byte-at, le-ltb _ _ c.if-at-lt15.false)
