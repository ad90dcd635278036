-- The tests are the definition's.
use Rattle.std.proofs.Common.{◌≡◌, true, false, sym, ◌∙◌}
use mathlib.Core.Bool.{and-false}
use Rattle.cells.specs.Runs.{is_character}
use Rattle.parser.specs.Phases.{is_ground}
use Rattle.spans.proofs.direct.acts_directly.Goals as goal
use Rattle.spans.proofs.direct.acts_directly.Goals.{Else-is_character, Else-not-is_ground}

-- ESC
pub returns-then-byte-eq-ESC : goal.returns-then-byte-eq-ESC
returns-then-byte-eq-ESC c = rw c.if-byte-eq-ESC.true (sym (and-false (is_ground c.args.core.parser.phase)))

pub returns-then-not-is_ground : goal.returns-then-not-is_ground
returns-then-not-is_ground c = rw (← c.is_ground.ensures, c.if-not-is_ground.true)

-- what the tests before it told
in-ground : (c : Else-not-is_ground) → is_ground c.args.core.parser.phase ≡ true
in-ground c = sym c.is_ground.ensures ∙ c.if-not-is_ground.false

no-character : (c : Else-is_character) → is_character c.args.byte ≡ false
no-character c = sym c.is_character.ensures ∙ c.if-is_character.false

pub returns-then-is_character : goal.returns-then-is_character
returns-then-is_character c =
    rw (in-ground (goal.at.returns-then-is_character c).Else-not-is_ground, ← c.is_character.ensures, c.if-is_character.true, ← c.is_unshifted.ensures)

pub returns-then-is_edge : goal.returns-then-is_edge
returns-then-is_edge c =
    rw (in-ground (goal.at.returns-then-is_edge c).Else-not-is_ground, no-character (goal.at.returns-then-is_edge c).Else-is_character, ← c.is_edge.ensures, c.if-is_edge.true, ← c.used_set.ensures)
    (rw (← c.is_edge.ensures, c.if-is_edge.true) at c.skipped.ensures)

pub returns : goal.returns
returns c =
    rw (in-ground (goal.at.returns c).Else-not-is_ground, no-character (goal.at.returns c).Else-is_character, ← c.is_edge.ensures, c.if-is_edge.false) c.is_direct.ensures
