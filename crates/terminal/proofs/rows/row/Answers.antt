-- Refused by the tests of state, page and line; a row of those that the active display has lies in its cells.
use Rattle.std.proofs.Common.{rules}
use Rattle.steps.specs.Steps.{buffers}
use Rattle.terminal.specs.Row.{row_read}
use Rattle.terminal.proofs.CallLaws.{Taken, passed, row-told-refused}
use Rattle.terminal.proofs.rows.row.Goals as goal

pub returns-in_err-map_err : goal.returns-in_err-map_err
returns-in_err-map_err c = search (rules, row-told-refused)

pub returns-then-row-active_rows : goal.returns-then-row-active_rows
unfolding row_read
returns-then-row-active_rows c =
    let w : Taken c.args.state (buffers c.args.page.now c.args.line.now) = search (rules, passed) in
    rw (w.whole, w.sizes, ← c.active_rows.ensures, c.if-row-active_rows.true, c.row_of.ensures, c.active-cells.ensures)

pub returns-else-row-active_rows : goal.returns-else-row-active_rows
unfolding row_read
returns-else-row-active_rows c =
    let w : Taken c.args.state (buffers c.args.page.now c.args.line.now) = search (rules, passed) in
    rw (w.whole, w.sizes, ← c.active_rows.ensures, c.if-row-active_rows.false)
