-- The cell at the cursor is on the page, its word is the definition's, and so are the edit and the cursor.
use Rattle.std.proofs.Common.{◌≡◌, refl, ◌∙◌}
use Rattle.core_state.specs.Glyphs.{glyph}
use Rattle.core_state.proofs.PenLaws.{pen-fits, pen-glyph}
use Rattle.spans.proofs.CharacterLaws.{no_shift, insert-done, put-done}
use Rattle.spans.proofs.characters.put_one.Goals as goal
use Rattle.spans.proofs.characters.put_one.Goals.{After-pen_word-word}

-- the word
word-is : (c : After-pen_word-word) → c.pen_word-word.result ≡ glyph c.args.printer.core c.args.byte
word-is c =
    c.pen_word-word.ensures ∙ rw c.args.printer.matched (pen-glyph c.args.printer.core c.args.byte (no_shift c.args.printer.core c.requires.0.direct))

-- in insert mode
pub returns-then-core : goal.returns-then-core
returns-then-core c =
    rw (c.advance-next.ensures, c.right_stop-last.ensures)
    (insert-done c.args.printer.core c.args.changed c.args.page.now c.args.byte c.requires.0 c.requires.1
    c.pen_word-word.result (word-is (goal.at.returns-then-core c).After-pen_word-word) c.change.new.page c.change.result c.if-core.true (rw c.right_stop-last.ensures at c.change.ensures))

pub returns : goal.returns
returns c =
    rw (c.advance-next.ensures, c.right_stop-last.ensures)
    (put-done c.args.printer.core c.args.changed c.args.page.now c.args.byte c.requires.0 c.requires.1
    c.pen_word-word.result (word-is (goal.at.returns c).After-pen_word-word) c.put.new.page c.put.result _ c.if-core.false c.put.ensures refl)

pub pen_word-word-requires : goal.pen_word-word-requires
pen_word-word-requires c = rw c.args.printer.matched (pen-fits _ _ _)
