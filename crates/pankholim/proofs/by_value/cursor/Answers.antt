-- A plain record is told of as it lies, and another by its state.
use Rattle.std.proofs.Common.{sym, ◌∙◌, rules}
use Rattle.pankholim.proofs.CallLaws.{cursor-plain-told, cursor-by-state}
use Rattle.pankholim.proofs.by_value.cursor.Goals as goal

pub returns-then-is_plain : goal.returns-then-is_plain
returns-then-is_plain c = cursor-plain-told c.args.terminal (sym c.is_plain.ensures ∙ c.if-is_plain.true)

pub returns : goal.returns
returns c = search (rules, cursor-by-state)
