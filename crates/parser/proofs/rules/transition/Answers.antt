-- Each arm is the definition's, by the byte.
use Rattle.std.proofs.Common.{◌≡◌, ◌<◌, ℕ, false, arith, ne_eqb}
use Rattle.std.proofs.lemmas.Bool.Decides.{nat_tests}
use Rattle.ground.specs.Tests.{between}
use Rattle.ground.proofs.TestLaws.{in_between}
use Rattle.parser.specs.Parser.{transition}
use Rattle.parser.proofs.rules.transition.Goals as goal
use Rattle.parser.proofs.rules.transition.Goals.{in_default-via-then-byte-lt128, in_default-via-else-byte-lt128+else-byte-lt160}

below_c1 : (b : ℕ) → b < 0x80 → between 0x80 b 0x9F ≡ false
below_c1 b h = grind (arith, nat_tests)

above-c1 : (b : ℕ) → 0x9F < b → between 0x80 b 0x9F ≡ false
above-c1 b h = grind (arith, nat_tests)

pub returns-in-24 : goal.returns-in-24
unfolding transition
returns-in-24 c = rw (c.in-24.is, c.to.ensures)

pub returns-in-26 : goal.returns-in-26
unfolding transition
returns-in-26 c = rw (c.in-26.is, c.to-in-26.ensures)

pub returns-in-27 : goal.returns-in-27
unfolding transition
returns-in-27 c = rw (c.in-27.is, c.to-in-27.ensures)

pub returns-in-128-to-159 : goal.returns-in-128-to-159
unfolding transition
returns-in-128-to-159 c =
    let b = c.args.byte in
    rw (ne_eqb b 0x18 (omega arith), ne_eqb b 0x1A (omega arith), ne_eqb b 0x1B (omega arith), in_between 0x80 b 0x9F (omega arith) (omega arith))
    c.c1_rule.ensures

pub returns-in_default : goal.returns-in_default
unfolding transition
returns-in_default c =
    let b = c.args.byte in
    elim c.in_default.branch [
      | in_default-via-then-byte-lt128 w ↦
          rw (ne_eqb b 0x18 (omega arith), ne_eqb b 0x1A (omega arith), ne_eqb b 0x1B (omega arith), below_c1 b (omega arith)) c.phase_rule.ensures
      | in_default-via-else-byte-lt128+else-byte-lt160 w ↦
          rw (ne_eqb b 0x18 (omega arith), ne_eqb b 0x1A (omega arith), ne_eqb b 0x1B (omega arith), above-c1 b (omega arith)) c.phase_rule.ensures
    ]
