-- A flag that is set is left; `|` with the column's bit sets it.
use Rattle.device.specs.Tabs.{with_tab}
use Rattle.device.proofs.TabLaws.{tab_ored}
use Rattle.device.proofs.tabs.Tabs.set.Goals as goal

pub returns-then-get : goal.returns-then-get
unfolding with_tab
returns-then-get c = rw (← c.get.ensures, c.if-get.true)

pub returns : goal.returns
returns c = rw (c.flag_of-at.ensures.byte, c.flag_of-at.ensures.bit) (tab_ored _ _)
