-- Each arm is the definition's clause for that operation.
use mathlib.Core.Path.{◌∙◌}
use Rattle.parser.proofs.RuleLaws.{kept-phase, lowered-mod}
use borrow.Enum.Refused.{opened}
use Rattle.parser.proofs.parser.Parser.kept.Goals as goal

pub returns-in-Clear : goal.returns-in-Clear
returns-in-Clear c = rw c.in-Clear.is c.cleared.ensures

pub returns-in-Collect : goal.returns-in-Collect
returns-in-Collect c = rw (c.in-Collect.is, ← lowered-mod _ c.ranges.byte.fits) c.collected.ensures

pub returns-in-Mark : goal.returns-in-Mark
returns-in-Mark c = rw (c.in-Mark.is, ← lowered-mod _ c.ranges.byte.fits) c.with_mark.ensures

pub returns-in-Param : goal.returns-in-Param
returns-in-Param c = rw (c.in-Param.is, ← lowered-mod _ c.ranges.byte.fits) c.gathered.ensures

pub returns-in_default : goal.returns-in_default
returns-in_default c = let a = c.args in c.in_phase.ensures ∙ kept-phase a.self a.next a.op a.byte (opened c.in_default.in_default-own.keys5)
