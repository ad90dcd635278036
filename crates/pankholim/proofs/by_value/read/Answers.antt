-- Of a plain record the rows are known, and another is read by its state.
use Rattle.std.proofs.Common.{sym, ◌∙◌}
use Rattle.pankholim.proofs.CallLaws.{read_plain, read-leaves}
use Rattle.pankholim.proofs.by_value.read.Goals as goal

pub returns-then-is_plain : goal.returns-then-is_plain
returns-then-is_plain c =
    let a = c.args in
    read_plain a.terminal a.page.now a.row a.column c.read_cell.result (sym c.is_plain.ensures ∙ c.if-is_plain.true) c.read_cell.ensures

pub returns : goal.returns
returns c =
    let a = c.args in
    read-leaves a.terminal _ a.page.now a.row a.column c.read.result c.state_of.ensures c.read.ensures
