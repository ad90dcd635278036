-- A line feed and the text that follows it, done as one scroll and puts, are what is done byte by byte.
use Rattle.std.proofs.Common.{◌≡◌, ◌+◌, ◌-◌, ap, ◌∙◌, arith, length, take, drop, length-take, length-drop}
use Rattle.std.proofs.lemmas.List.{take_all}
use Rattle.core_state.proofs.PenLaws.{pen-fits, pen-glyph}
use Rattle.spans.proofs.CharacterLaws.{unshifted-is}
use Rattle.spans.proofs.LineLaws.{Scrolls}
use Rattle.spans.proofs.TextLaws.{scrolls, lines-spanned}
use Rattle.spans.proofs.direct.feed_lines.Goals as goal
use Rattle.spans.proofs.direct.feed_lines.Goals.{Start, After-lines_ahead-ahead}

-- text scrolls here
there : (start : Start) → Scrolls start.args.printer.core
there start = scrolls start.args.printer.core start.args.changed start.requires.1 start.requires.2

-- the text that is taken follows the line feed
follows : (c : After-lines_ahead-ahead) → let text = c.lines_ahead-ahead.result.text.now in text ≡ take (length text) (drop (c.args.from + 1) c.args.input.now)
follows c =
    let input = c.args.input.now in
    c.lines_ahead-ahead.ensures.first ∙ ap (take (length c.lines_ahead-ahead.result.text.now))
    (take_all (length input - (c.args.from + 1)) (drop (c.args.from + 1) input) (omega (arith, length-drop (c.args.from + 1) input)))

pub scroll_lines-column-requires : goal.scroll_lines-column-requires
scroll_lines-column-requires c =
    let b = c.requires.0.whole.parts.bounds in
    let s = there (goal.at.scroll_lines-column-requires c).Start in
    let few = c.lines_ahead-ahead.ensures.few in
    record {
      long = c.requires.0.size;
      room = omega (arith, few, s.margins, b.margins.low);
      left = omega (arith, b.cursor.column-low);
      right = omega (arith, b.cursor.column-high);
      fits = rw c.args.printer.matched (pen-fits _ _ _);
    }

pub returns : goal.returns
returns c =
    let core = c.args.printer.core in
    let ahead = c.lines_ahead-ahead.result in
    rw c.to_column.ensures (
      lines-spanned core c.args.changed c.args.page.now c.args.input.now c.args.from c.args.printer.pen c.requires.0
          c.requires.1 c.requires.2 (omega arith)
          (λ b. rw c.args.printer.matched (pen-glyph core b (unshifted-is core.shift (there (goal.at.returns c).Start).unshifted)))
          c.requires.3 c.requires.4 ahead.text.now (follows (goal.at.returns c).After-lines_ahead-ahead) ahead.plain _ _ c.scroll_lines-column.ensures,
      omega arith,
    )

pub overflow_add-result-2 : goal.overflow_add-result-2
overflow_add-result-2 c =
    let text = c.lines_ahead-ahead.result.text.now in
    let rest = drop (c.args.from + 1) c.args.input.now in
    omega (
      arith,
      ap length (follows (goal.at.overflow_add-result-2 c).After-lines_ahead-ahead),
      length-take (length text) rest,
      length-drop (c.args.from + 1) c.args.input.now,
      c.well_formed,
    )
