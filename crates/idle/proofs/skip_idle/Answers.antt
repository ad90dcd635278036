-- The mark and the parameters come after CSI or go on here, what opens a string may come after ESC.
use mathlib.Core.Path.{◌≡◌, refl, sym, ◌∙◌}
use mathlib.Core.Bool.{Bool, true, false, not, ◌&&◌, ◌||◌}
use Prim.Native.Nat.{◌+◌}
use lib.Dec.{ltb}
use borrow.Author.Rules.{rules}
use Rattle.parser.specs.declared.phases.Phase.TheVariants.{Escape}
use Rattle.parser.specs.declared.parser.Parser.{Parser}
use Rattle.parser.specs.Phases.{takes_parameters}
use Rattle.parser.specs.Parser.{cleared}
use Rattle.ground.proofs.TestLaws.{and_left}
use Rattle.idle.specs.Idle.{begun, Skipped, AfterCsi}
use Rattle.idle.proofs.IdleLaws.{skipped-known, skipped-on, escape-idle}
use Rattle.idle.proofs.skip_idle.Goals as goal
use Rattle.idle.proofs.skip_idle.Goals.{Then-byte_is}

-- parameters are taken right after CSI, or where they were
takes : (fresh other : Bool) (s : Parser) → (fresh || (takes_parameters s.phase && other)) ≡ true → takes_parameters (begun fresh s).phase ≡ true
takes true other s h = refl
takes false other s h = and_left (takes_parameters s.phase) other h

-- ESC is taken
escaped : (c : Then-byte_is)
    → let a = c.args in
    Skipped a.parser a.input.now a.from (record { parser = cleared Escape; next = a.from + 1 })
escaped c =
    let a = c.args in
    skipped-known a.parser _ a.input.now a.from 0x1B (sym c.byte_is-2.ensures ∙ c.if-byte_is.true) (escape-idle a.parser)

pub gather-requires : goal.gather-requires
unfolding AfterCsi
gather-requires c =
    let a = c.args in
    let s = a.parser in
    let fresh = ltb a.from c.after_csi-next.result in
    ((c.after_csi-next.ensures s).end, rw c.begun.ensures (takes fresh (not c.byte_is.result) s (rw c.takes_parameters.ensures at c.if-fresh-takes_parameters.true)))

pub returns-then-fresh-takes_parameters : goal.returns-then-fresh-takes_parameters
unfolding AfterCsi
returns-then-fresh-takes_parameters c = skipped-on (c.after_csi-next.ensures c.args.parser) (rw c.begun.ensures at c.gather.ensures)

pub skip_string-requires : goal.skip_string-requires
unfolding AfterCsi
skip_string-requires c = (escaped (goal.at.skip_string-requires c).Then-byte_is).end

pub returns-then-byte_is : goal.returns-then-byte_is
unfolding AfterCsi
returns-then-byte_is c = skipped-on (escaped (goal.at.returns-then-byte_is c).Then-byte_is) (rw c.cleared.ensures at c.skip_string.ensures)

pub returns : goal.returns
unfolding AfterCsi
returns c = search rules
