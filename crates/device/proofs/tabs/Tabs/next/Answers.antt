-- At the last column and after it the search ends where it begins; before it, it is the quick search held to it.
use Rattle.std.proofs.Common.{sym}
use Rattle.device.proofs.TabLaws.{next-none}
use Rattle.device.proofs.TabSearchLaws.{search-min}
use Rattle.device.proofs.tabs.Tabs.next.Goals as goal

pub returns-then-last-column : goal.returns-then-last-column
returns-then-last-column c = sym (next-none c.args.self c.args.column c.args.last c.if-last-column.true)

pub returns : goal.returns
returns c = rw (c.min.ensures, c.search.ensures) (search-min c.args.self c.args.column c.args.last c.if-last-column.false c.requires)
