-- The page has 1,920 words and the line 80, so the start is not refused, and its state and page are whole.
use Rattle.std.proofs.Common.{rules}
use Rattle.console.proofs.FeedLaws.{start-ok, start-ready}
use Rattle.console.proofs.show.Goals as goal

pub unwrap-state-requires : goal.unwrap-state-requires
unwrap-state-requires g c = search (rules, start-ok)

pub read_all-read-requires : goal.read_all-read-requires
read_all-read-requires g c = search (rules, start-ready)
