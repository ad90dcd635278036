-- The first is one step; those after it are a run, where there is one.
use Rattle.std.proofs.Common.{◌+◌, refl, arith}
use Rattle.core_state.specs.Effects.{with_cursor}
use Rattle.spans.specs.Spans.{Spanned}
use Rattle.spans.proofs.SpannedLaws.{spanned-none, spanned-append, spanned-more}
use Rattle.spans.proofs.CharacterLaws.{direct-on}
use Rattle.spans.proofs.characters.put_some.Goals as goal
use Rattle.spans.proofs.characters.put_some.Goals.{After-put_one-first}

-- the first is done
first : (c : After-put_one-first) → let a = c.args in
    Spanned a.printer.core a.changed a.page.now a.input.now a.from (a.from + 1)
    (with_cursor a.printer.core c.put_one-first.result.cursor) c.put_one-first.result.changed c.put_one-first.new.page
first c =
    spanned-more (spanned-none _ _ _ _ _ c.requires.0.paged (omega (arith, c.requires.1))) c.requires.1 _ refl c.put_one-first.ensures

pub put_row-requires : goal.put_row-requires
put_row-requires c =
    let told = c.goes_on.ensures c.if-goes_on.true in
    (direct-on _ _ _ _ c.requires.0 (first (goal.at.put_row-requires c).After-put_one-first).paged told.1, told.0, omega (arith, told.2))

pub returns-then-goes_on : goal.returns-then-goes_on
returns-then-goes_on c =
    (spanned-append (first (goal.at.returns-then-goes_on c).After-put_one-first) c.put_row.ensures, omega (arith, c.put_row.ensures.start))

pub returns : goal.returns
returns c = (first (goal.at.returns c).After-put_one-first, omega arith)
