-- What opens a string is taken, then the text; at another byte nothing is read.
use mathlib.Core.Path.{sym, ◌∙◌}
use Prim.Native.Nat.{◌+◌}
use borrow.Author.Rules.{rules}
use Rattle.parser.specs.declared.phases.Phase.TheVariants.{StringText}
use Rattle.parser.specs.Parser.{in_phase}
use Rattle.idle.specs.Idle.{Skipped}
use Rattle.idle.proofs.IdleLaws.{skipped-none, skipped-on, skipped-opener}
use Rattle.idle.proofs.skip_string.Goals as goal
use Rattle.idle.proofs.skip_string.Goals.{Then-opens_at}

-- where a string opens, the byte is taken
opened : (c : Then-opens_at)
    → let a = c.args in
    Skipped a.parser a.input.now a.from (record { parser = in_phase StringText a.parser; next = a.from + 1 })
opened c =
    let a = c.args in
    skipped-opener a.parser a.input.now a.from (sym c.opens_at.ensures ∙ c.if-opens_at.true)

pub overflow_add-from : goal.overflow_add-from
overflow_add-from c = let l = (opened (goal.at.overflow_add-from c).Then-opens_at).end in search rules

pub skip_text-requires : goal.skip_text-requires
skip_text-requires c = ((opened (goal.at.skip_text-requires c).Then-opens_at).end, rw c.in_phase.ensures)

pub returns-then-opens_at : goal.returns-then-opens_at
returns-then-opens_at c = skipped-on (opened (goal.at.returns-then-opens_at c).Then-opens_at) (rw c.in_phase.ensures at c.skip_text.ensures)

pub skip_text-requires-then-is_string : goal.skip_text-requires-then-is_string
skip_text-requires-then-is_string c = (search rules, sym c.is_string.ensures ∙ c.if-is_string.true)

pub returns : goal.returns
returns c = skipped-none _ _ _ (search rules)
