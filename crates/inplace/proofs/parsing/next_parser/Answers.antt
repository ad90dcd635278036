-- Each arm is what the parser makes of the byte, by the tests that led there.
use Rattle.std.proofs.Common.{◌≡◌, true, ◌&&◌, ◌||◌, eqb, [], ◌∷◌, arith, ne_eqb}
use Rattle.ground.specs.Tests.{between}
use Rattle.ground.proofs.TestLaws.{and_left, and_right}
use Rattle.parser.specs.declared.phases.Phase.TheVariants.{Escape, CsiEntry}
use Rattle.parser.specs.Phases.{takes_parameters}
use Rattle.parser.specs.Parser.{cleared}
use Rattle.parser.proofs.PhaseLaws.{phase-same}
use Rattle.idle.proofs.IdleLaws.{skipped-one, escape-idle, csi-idle}
use Rattle.inplace.proofs.ParserLaws.{parameter-skipped}
use Rattle.inplace.proofs.parsing.next_parser.Goals as goal

pub returns-in-27 : goal.returns-in-27
returns-in-27 c =
    let s = c.args.parser in
    rw (c.cleared.ensures, c.in-27.is) (skipped-one s (cleared Escape) (0x1B ∷ []) 0 (omega arith) (escape-idle s))

pub returns-in-91 : goal.returns-in-91
returns-in-91 c =
    let s = c.args.parser in
    let here = phase-same s.phase Escape (rw c.in-91.is at c.requires) in
    rw (c.cleared-in-91.ensures, c.in-91.is) (skipped-one s (cleared CsiEntry) (0x5B ∷ []) 0 (omega arith) (csi-idle s here))

pub returns-in_default : goal.returns-in_default
returns-in_default c =
    let s = c.args.parser in
    let b = c.args.byte in
    let test : (takes_parameters s.phase && (between 0x30 b 0x39 || eqb b 0x3B)) ≡ true =
    rw (ne_eqb b 0x1B (omega arith), ne_eqb b 0x5B (omega arith)) at c.requires in
    rw (c.with_params.ensures, c.take.ensures)
    (parameter-skipped s b (and_left (takes_parameters s.phase) _ test) (and_right (takes_parameters s.phase) _ test))
