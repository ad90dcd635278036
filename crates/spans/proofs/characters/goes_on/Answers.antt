-- Each test that fails tells one of the facts.
use Rattle.std.proofs.Common.{ltb, leb, length, get_or, sym, ◌∙◌, ltb-true, leb-false}
use Rattle.ground.specs.Tests.{between}
use Rattle.ground.proofs.TestLaws.{and_left, or_left, or_right}
use Rattle.spans.proofs.characters.goes_on.Goals as goal

pub returns : goal.returns
returns c h =
    let a = c.args in
    let n = length a.input.now in (
      or_left a.insert (leb 80 a.cursor.column) c.if-insert-cursor.false,
      leb-false 80 a.cursor.column (or_right a.insert (leb 80 a.cursor.column) c.if-insert-cursor.false),
      ltb-true a.at n (and_left (ltb a.at n) (between 0x20 (get_or a.input.now a.at 0) 0x7E) (sym c.plain_at.ensures ∙ h)),
    )
