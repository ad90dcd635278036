-- Refused by the tests of state, page and line; else fed as a whole state is.
use Rattle.std.proofs.Common.{rules}
use Rattle.terminal.proofs.CallLaws.{passed, fed-refused}
use Rattle.terminal.proofs.calls.feed.Goals as goal

pub feed_whole-requires : goal.feed_whole-requires
feed_whole-requires c = search (rules, passed)

pub returns-in-Err : goal.returns-in-Err
returns-in-Err c = search (rules, fed-refused)
