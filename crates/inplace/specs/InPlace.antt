-- What a plain record takes as it lies: which bytes, the words of characters, and the record after them.
use Rattle.std.specs.Prelude.{◌≡◌, ℕ, ◌+◌, ◌-◌, ◌*◌, ◌^◌, Bool, true, cond, ◌&&◌, ◌||◌, List, [], ◌∷◌, length, replicate, ◌==◌, bit_or, nat_le, slice_index}
use Rattle.ground.specs.Tests.{between}
use Rattle.cells.specs.Cells.{bit}
use Rattle.parser.specs.declared.phases.Phase.{Phase}
use Rattle.parser.specs.declared.phases.Phase.TheVariants.{Escape}
use Rattle.parser.specs.declared.parser.Parser.{Parser}
use Rattle.parser.specs.Phases.{is_phase, takes_parameters, phase_of}
use Rattle.core_state.specs.Pens.{flag_bits}
use Rattle.steps.specs.Steps.{buffers}
use Rattle.record.specs.declared.CursorRecord.{CursorRecord}
use Rattle.record.specs.declared.ParserRecord.{ParserRecord}
use Rattle.record.specs.declared.Terminal.{Terminal}
use Rattle.record.specs.Numbers.{is_on}
use Rattle.record.specs.Record.{rendition_of, parser_record, state_of, record_of}
use Rattle.terminal.specs.Answers.{Done}
use Rattle.terminal.specs.Feed.{feed_as, fed}

-- ---- which

-- the graphic characters of ASCII and the space: 20 to 7E
abbrev pub all_ascii : List ℕ → Bool
all_ascii [] = true
all_ascii (b ∷ bs) = between 0x20 b 0x7E && all_ascii bs

-- in ground, no shift pending, insert mode off, GL is G0 and G0 is ASCII
abbrev pub puts_ascii : Terminal → Bool
puts_ascii t = t.parser.phase == 0 && t.shift == 0 && t.modes.insert == 0 && t.sets.g0 == 0 && t.sets.gl == 0

-- a few, that leave the cursor in its row with no wrap due
unfoldable pub takes_in_place : Terminal → List ℕ → Bool
takes_in_place t input = (puts_ascii t && nat_le (length input) 16) && nat_le (t.cursor.column + length input) 80 && all_ascii input

-- ESC, the [ after it, and in a control sequence a digit or 3B
abbrev pub steers_by : Phase → ℕ → Bool
steers_by p b = b == 0x1B || cond (b == 0x5B) (is_phase Escape p) (takes_parameters p && (between 0x30 b 0x39 || b == 0x3B))

-- one of them, alone
unfoldable pub steers_in_place : Terminal → List ℕ → Bool
steers_in_place t input = length input == 1 && steers_by (phase_of t.parser.phase) (slice_index input 0)

-- ---- what characters put

-- a word without its code
abbrev pub base_of : Terminal → ℕ
base_of t = flag_bits (rendition_of t.rendition) (is_on t.protected)

-- the cursor's place on the page
abbrev pub place_of : Terminal → ℕ
place_of t = 80 * (t.cursor.row - 1) + (t.cursor.column - 1)

-- ---- what is left

-- the record with other changed rows, another cursor and another parser
abbrev pub with_numbers : Terminal → ℕ → CursorRecord → List ℕ → ParserRecord → Terminal
with_numbers t changed cursor values parser = record {
  changed = changed;
  values = values;
  tabs = t.tabs;
  rows = t.rows;
  top = t.top;
  bottom = t.bottom;
  protected = t.protected;
  shift = t.shift;
  cursor = cursor;
  modes = t.modes;
  rendition = t.rendition;
  sets = t.sets;
  saved = t.saved;
  parser = parser;
  status = t.status;
  flag = t.flag;
  unused = replicate 5 0;
}

-- after so many characters, with the cursor's row if it changed
unfoldable pub moved_by : Terminal → ℕ → Bool → Terminal
moved_by t count changed =
    with_numbers t (bit_or t.changed (bit changed * 2 ^ (t.cursor.row - 1)))
    (record { row = t.cursor.row; column = t.cursor.column + count; wrap = t.cursor.wrap }) t.values t.parser

-- after a byte that only moves the parser
abbrev pub reparsed : Terminal → Parser → Terminal
reparsed t s = with_numbers t t.changed t.cursor s.params.values (parser_record s)

-- a feeding that reads all and sends nothing, whatever line and reply buffer are lent; and the record is its state's
pub record FedInPlace (t : Terminal) (p input : List ℕ) (r : Terminal) (q : List ℕ) : Type 0 where
  pub fed-is : (line reply : List ℕ) → length line ≡ 80
      → feed_as Done (length input) 0 (state_of r) (buffers q line) reply ≡ fed (state_of t) (buffers p line) input reply
  pub back : r ≡ record_of (state_of r)
