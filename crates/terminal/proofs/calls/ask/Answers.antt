-- Refused for a state that is not whole; else the count of ones is the set's size.
use Rattle.std.proofs.Common.{◌≡◌, true, rules}
use Rattle.steps.specs.Whole.{whole_state}
use Rattle.terminal.specs.Ask.{asked}
use Rattle.terminal.proofs.CallLaws.{whole-passed, whole-refused, state-facts}
use Rattle.terminal.proofs.calls.ask.Goals as goal

pub returns-in-Err : goal.returns-in-Err
unfolding asked
returns-in-Err c = search (rules, whole-refused)

pub returns : goal.returns
unfolding asked
returns c =
    let s = c.args.state in
    let e : whole_state s ≡ true = search (rules, whole-passed) in
    rw (e, c.count_rows.ensures s.displays.core.rows (state-facts s e).changed)
