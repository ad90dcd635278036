-- Each way is the definition's, by the tests that led there.
use Rattle.parser.proofs.rules.phase_rule.Goals as goal

pub returns-then-is_ground : goal.returns-then-is_ground
returns-then-is_ground c = rw (← c.is_ground.ensures, c.if-is_ground.true, ← c.to.ensures, ← c.to-then-is_ground.ensures) c.below.ensures

pub returns-then-is_string : goal.returns-then-is_string
returns-then-is_string c = rw (← c.is_ground.ensures, c.if-is_ground.false, ← c.is_string.ensures, c.if-is_string.true) c.to-then-is_string.ensures

pub returns : goal.returns
returns c = rw (← c.is_ground.ensures, c.if-is_ground.false, ← c.is_string.ensures, c.if-is_string.false) c.in_sequence.ensures
