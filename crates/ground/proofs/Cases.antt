-- What `search` follows a branch by: which way a choice goes, and what a test on numbers is where its fact is known.
use mathlib.Core.Path.{◌≡◌, sym, ◌∙◌}
use mathlib.Core.Bool.{Bool}
use borrow.Author.Tests.{eq-eqb, ne_eqb, lt-ltb, le-ltb, le-leb, lt-leb}
use Rattle.ground.proofs.Choice.{take-yes, take_no}

pub ruleset cases = (take-yes, take_no, eq-eqb, ne_eqb, lt-ltb, le-ltb, le-leb, lt-leb)

-- a test that a function t answers: u is what it promises, v which way the branch went
pub told : {t u v : Bool} → t ≡ u → t ≡ v → u ≡ v
told p q = sym p ∙ q
