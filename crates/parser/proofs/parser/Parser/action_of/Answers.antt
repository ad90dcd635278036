-- Each arm is the definition's clause for that operation.
use Rattle.parser.proofs.RuleLaws.{action-nothing, lowered-mod}
use Rattle.parser.proofs.parser.Parser.action_of.Goals as goal

pub returns-in-Print : goal.returns-in-Print
returns-in-Print c = rw c.in-Print.is

pub returns-in-Execute : goal.returns-in-Execute
returns-in-Execute c = rw c.in-Execute.is

pub returns-in-C1 : goal.returns-in-C1
returns-in-C1 c = rw (c.in-C1.is, c.c1_byte.ensures)

pub returns-in-EscDispatch : goal.returns-in-EscDispatch
returns-in-EscDispatch c = rw (c.in-EscDispatch.is, c.first_of.ensures, c.second_of.ensures, ← lowered-mod _ c.ranges.byte.fits)

pub returns-in-CsiDispatch : goal.returns-in-CsiDispatch
returns-in-CsiDispatch c =
    rw (c.in-CsiDispatch.is, ← c.first_of-in-CsiDispatch.ensures, ← c.second_of-in-CsiDispatch.ensures)
    (rw (← lowered-mod _ c.ranges.byte.fits)
    c.sequence_action.ensures)

pub returns-in_default : goal.returns-in_default
returns-in_default c = let a = c.args in action-nothing a.self a.op a.byte c.in_default.in_default-own.keys7
