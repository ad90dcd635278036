-- A plain record is told of as it lies, and another by its state.
use Rattle.std.proofs.Common.{sym, ◌∙◌, rules}
use Rattle.record.proofs.PlainLaws.{plain-changed}
use Rattle.pankholim.proofs.CallLaws.{ask-plain, ask-done, ask-refused}
use Rattle.pankholim.proofs.by_value.ask.Goals as goal

pub returns-then-is_plain : goal.returns-then-is_plain
returns-then-is_plain c =
    let t = c.args.terminal in
    let e = sym c.is_plain.ensures ∙ c.if-is_plain.true in
    ask-plain t c.count_rows.result _ e (c.count_rows.ensures t.rows (plain-changed t e)) c.emptied.ensures

pub returns-in-Ok : goal.returns-in-Ok
returns-in-Ok c = search (rules, ask-done)

pub returns-in-Err : goal.returns-in-Err
returns-in-Err c = search (rules, ask-refused)
