-- Refused for a state that is not whole; else each field is the core's.
use Rattle.std.proofs.Common.{rules}
use Rattle.terminal.specs.CursorRead.{cursor_read}
use Rattle.terminal.proofs.CallLaws.{whole-passed, whole-refused}
use Rattle.terminal.proofs.calls.cursor.Goals as goal

pub returns-in_err-map_err : goal.returns-in_err-map_err
unfolding cursor_read
returns-in_err-map_err c = search (rules, whole-refused)

pub returns : goal.returns
unfolding cursor_read
returns c = search (rules, whole-passed)
