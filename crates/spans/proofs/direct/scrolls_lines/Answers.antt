-- The tests are the definition's, those that are rare last.
use Rattle.std.proofs.Common.{◌≡◌, Bool, true, false, not, ◌&&◌, ◌||◌, eqb, ltb, leb, sym, ap, ◌∙◌, le-ltb, lt-ltb, eq-eqb, ne_eqb, leb-false, leb-true}
use mathlib.Core.Bool.{and-false}
use borrow.Author.Tests.{not-true, not-false}
use Rattle.ground.proofs.TestLaws.{or_cases, or_left, or_right}
use Rattle.spans.specs.Characters.{is_unshifted}
use Rattle.spans.proofs.direct.scrolls_lines.Goals as goal

-- what fails at one of two tests
neither : (u : Bool) (a b : _) → (not u || leb a b) ≡ true → (u && ltb b a) ≡ false
neither u a b h = or_cases (not u) (leb a b) h (λ e. rw (not-true u e)) (λ e. rw (le-ltb b a (leb-true a b e)) (and-false u))

pub returns-then-core : goal.returns-then-core
returns-then-core c =
    let core = c.args.core in
    rw c.if-core.true (sym (and-false (eqb core.cursor.row core.margins.bottom)))

pub returns-then-is_unshifted-margins : goal.returns-then-is_unshifted-margins
returns-then-is_unshifted-margins c =
    let core = c.args.core in
    rw (neither (is_unshifted core.shift) core.margins.bottom core.margins.top (rw c.is_unshifted.ensures at c.if-is_unshifted-margins.true))
    (sym (ap (λ (t : Bool). eqb core.cursor.row core.margins.bottom && t) (and-false (not (core.modes.insert || core.modes.autowrap)))
    ∙ and-false (eqb core.cursor.row core.margins.bottom)))

pub returns : goal.returns
returns c =
    let core = c.args.core in
    let h = rw c.is_unshifted.ensures at c.if-is_unshifted-margins.false in
    rw (
      eq-eqb _ _ c.if-core-margins.false,
      c.if-core.false,
      not-false (is_unshifted core.shift) (or_left (not (is_unshifted core.shift)) (leb core.margins.bottom core.margins.top) h),
      lt-ltb core.margins.top core.margins.bottom
          (leb-false core.margins.bottom core.margins.top (or_right (not (is_unshifted core.shift)) (leb core.margins.bottom core.margins.top) h)),
    )
    c.all_known.ensures

pub returns-then-core-margins : goal.returns-then-core-margins
returns-then-core-margins c = rw (ne_eqb _ _ c.if-core-margins.true)
