-- A phase comes back from its number, so phases with one number are the same.
use mathlib.Core.Path.{◌≡◌, refl, sym, ap, ◌∙◌}
use mathlib.Core.Bool.{true}
use borrow.Author.Tests.{eqb-true}
use Rattle.parser.specs.declared.phases.Phase.{Phase}
use Rattle.parser.specs.declared.phases.Phase.TheVariants.{Ground, Escape, EscapeOne, EscapeTwo, EscapeIgnore, CsiEntry, CsiParam, CsiOne, CsiTwo}
use Rattle.parser.specs.declared.phases.Phase.TheVariants.{CsiIgnore, StringText}
use Rattle.parser.specs.Phases.{phase_number, phase_of, is_phase}

pub phase-back : (p : Phase) → phase_of (phase_number p) ≡ p
phase-back Ground = refl
phase-back Escape = refl
phase-back EscapeOne = refl
phase-back EscapeTwo = refl
phase-back EscapeIgnore = refl
phase-back CsiEntry = refl
phase-back CsiParam = refl
phase-back CsiOne = refl
phase-back CsiTwo = refl
phase-back CsiIgnore = refl
phase-back StringText = refl

pub phase-same : (p q : Phase) → is_phase q p ≡ true → p ≡ q
phase-same p q e = sym (phase-back p) ∙ ap phase_of (eqb-true (phase_number p) (phase_number q) e) ∙ phase-back q
