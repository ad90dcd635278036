-- A flag that is not set is left; `&` with all bits but the column's clears it.
use borrow.Author.Rules.{rules}
use mir.Val.{Fits}
use mir.Syntax.{w8}
use Rattle.device.specs.Tabs.{tab_byte, without_tab}
use Rattle.device.proofs.TabLaws.{tab_masked}
use Rattle.device.proofs.tabs.Tabs.clear.Goals as goal

pub returns-then-get : goal.returns-then-get
returns-then-get c =
    let h : Fits w8 (tab_byte c.args.self c.args.column) = search rules in
    rw (c.flag_of-at.ensures.byte, c.flag_of-at.ensures.bit) (tab_masked _ _ h.fits)

pub returns-else-get : goal.returns-else-get
unfolding without_tab
returns-else-get c = rw (← c.get.ensures, c.if-get.false)
