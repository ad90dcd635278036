-- What is put in the row is a run of characters.
use Rattle.std.proofs.Common.{map, drop, arith, length-drop}
use lib.ListN.{length-map}
use Rattle.cells.specs.Runs.{pen_word}
use Rattle.core_state.proofs.PenLaws.{pen-fits}
use Rattle.spans.proofs.CharacterLaws.{words-glyphs, run-spanned}
use Rattle.spans.proofs.characters.put_row.Goals as goal

pub put_characters-done-requires : goal.put_characters-done-requires
put_characters-done-requires c =
    let b = c.requires.0.paged.whole.parts.bounds in
    let size = c.requires.0.paged.size in
    (omega (arith, c.place.ensures, c.min-most.ensures), omega (arith, c.min-most.ensures), rw c.args.printer.matched (pen-fits _ _ _))

pub returns : goal.returns
returns c =
    let core = c.args.printer.core in
    let input = c.args.input.now in
    let from = c.args.from in
    let pen = c.args.printer.pen in
    let k = c.put_characters-done.result.count in
    let P = c.put_characters-done.ensures in
    let s = map (pen_word pen) (drop from input) in
    rw (c.advance_by.ensures, c.row_bit.ensures, P.pasted.page, P.pasted.flagged, c.place.ensures)
    (run-spanned core c.args.changed c.args.page.now input from s c.requires.0 c.requires.1 k (record {
      room = omega (arith, c.min-most.ensures, P.most);
      end = omega (arith, c.min-most.ensures, P.most);
      words = simp (length-map, length-drop) (omega (arith, c.min-most.ensures, P.most));
      characters = P.characters;
      glyphs = words-glyphs core pen input from c.requires.0.direct c.args.printer.matched k (omega (arith, c.min-most.ensures, P.most));
    }))
