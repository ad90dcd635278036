-- Refused for a state that is not whole; else as a cell of its page is read.
use Rattle.std.proofs.Common.{rules}
use Rattle.terminal.specs.Read.{cell_read}
use Rattle.terminal.proofs.CallLaws.{whole-passed, whole-refused}
use Rattle.terminal.proofs.calls.read.Goals as goal

pub returns-in_err-map_err : goal.returns-in_err-map_err
unfolding cell_read
returns-in_err-map_err c = search (rules, whole-refused)

pub returns : goal.returns
unfolding cell_read
returns c = search (rules, whole-passed)
