-- The parser is what the byte leaves of it, and the record is that of the state with it.
use Rattle.std.proofs.Common.{get_or, arith}
use Rattle.record.specs.Record.{core_of, state_of}
use Rattle.inplace.proofs.ParserLaws.{one_byte, steering, reparsed-fed}
use Rattle.inplace.proofs.parsing.steered.Goals as goal

pub bounds-input-0 : goal.bounds-input-0
bounds-input-0 c =
    omega (arith, (steering c.args.terminal c.args.input.now c.requires.1).0)

pub next_parser-parser-requires : goal.next_parser-parser-requires
next_parser-parser-requires c =
    rw c.parser_of.ensures (steering c.args.terminal c.args.input.now c.requires.1).1

pub returns : goal.returns
unfolding state_of core_of
returns c p long =
    let t = c.args.terminal in
    let input = c.args.input.now in
    let skipped = rw c.parser_of.ensures at c.next_parser-parser.ensures in
    rw c.from-terminal.ensures
    (rw (one_byte input (steering t input c.requires.1).0) at (reparsed-fed t c.requires.0 c.next_parser-parser.result (get_or input 0 0) skipped p long))
