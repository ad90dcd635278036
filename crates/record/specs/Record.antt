-- A terminal as C holds it, numbers alone: the record of a state, and the state of a record.
use Rattle.std.specs.Prelude.{ℕ, Bool, cond, ◌&&◌, List, replicate, nat_lt}
use Rattle.cells.specs.Cells.{set_number, set_of}
use Rattle.cells.specs.declared.Rendition.{Rendition}
use Rattle.device.specs.declared.charsets.Sets.{Sets}
use Rattle.core_state.specs.declared.Core.{Core}
use Rattle.core_state.specs.declared.Modes.{Modes}
use Rattle.core_state.specs.declared.Saved.{Saved}
use Rattle.core_state.specs.declared.LineSaved.{LineSaved}
use Rattle.core_state.specs.declared.StatusLine.{StatusLine}
use Rattle.device.specs.declared.cursor.Cursor.{Cursor}
use Rattle.parser.specs.declared.parser.Parser.{Parser}
use Rattle.steps.specs.declared.State.{State}
use Rattle.record.specs.declared.CursorRecord.{CursorRecord}
use Rattle.record.specs.declared.ModesRecord.{ModesRecord}
use Rattle.record.specs.declared.RenditionRecord.{RenditionRecord}
use Rattle.record.specs.declared.SetsRecord.{SetsRecord}
use Rattle.record.specs.declared.SavedRecord.{SavedRecord}
use Rattle.record.specs.declared.ParserRecord.{ParserRecord}
use Rattle.record.specs.declared.LineSavedRecord.{LineSavedRecord}
use Rattle.record.specs.declared.StatusRecord.{StatusRecord}
use Rattle.record.specs.declared.Terminal.{Terminal}
use Rattle.device.specs.Charsets.{register_number, register_of, shift_number, shift_of}
use Rattle.parser.specs.Phases.{phase_number, phase_of}
use Rattle.record.specs.Numbers.{flag_number, is_on}

-- ---- the record of a state

abbrev pub cursor_record : Cursor → CursorRecord
cursor_record c = record { row = c.row; column = c.column; wrap = flag_number c.wrap }

abbrev pub modes_record : Modes → ModesRecord
modes_record m = record {
  insert = flag_number m.insert;
  newline = flag_number m.newline;
  origin = flag_number m.origin;
  autowrap = flag_number m.autowrap;
  shown = flag_number m.shown;
  eightbit = flag_number m.eightbit;
  rectangle = flag_number m.rectangle;
}

abbrev pub rendition_record : Rendition → RenditionRecord
rendition_record r = record {
  bold = flag_number r.bold;
  underline = flag_number r.underline;
  blink = flag_number r.blink;
  reverse = flag_number r.reverse;
}

abbrev pub sets_record : Sets → SetsRecord
sets_record s = record {
  g0 = set_number s.g0;
  g1 = set_number s.g1;
  g2 = set_number s.g2;
  g3 = set_number s.g3;
  gl = register_number s.gl;
  gr = register_number s.gr;
}

abbrev pub saved_record : Saved → SavedRecord
saved_record s = record {
  cursor = cursor_record s.cursor;
  rendition = rendition_record s.rendition;
  origin = flag_number s.origin;
  sets = sets_record s.sets;
  protected = flag_number s.protected;
  shift = shift_number s.shift;
}

abbrev pub parser_record : Parser → ParserRecord
parser_record p = record {
  phase = phase_number p.phase;
  mark = p.mark;
  first = p.first;
  second = p.second;
  separators = p.params.separators;
}

abbrev pub line_saved_record : LineSaved → LineSavedRecord
line_saved_record s = record {
  column = s.column;
  wrap = flag_number s.wrap;
  rendition = rendition_record s.rendition;
  sets = sets_record s.sets;
  protected = flag_number s.protected;
  shift = shift_number s.shift;
}

abbrev pub status_record : StatusLine → StatusRecord
status_record l = record {
  present = flag_number l.present;
  active = flag_number l.active;
  column = l.column;
  wrap = flag_number l.wrap;
  saved = line_saved_record l.saved;
}

-- the unused bytes are 0, so that equal states have equal records
unfoldable pub record_of : State → Terminal
record_of s = record {
  changed = s.tracked.changed;
  values = s.displays.core.parser.params.values;
  tabs = s.displays.core.tabs.flags;
  rows = s.displays.core.rows;
  top = s.displays.core.margins.top;
  bottom = s.displays.core.margins.bottom;
  protected = flag_number s.displays.core.protected;
  shift = shift_number s.displays.core.shift;
  cursor = cursor_record s.displays.core.cursor;
  modes = modes_record s.displays.core.modes;
  rendition = rendition_record s.displays.core.rendition;
  sets = sets_record s.displays.core.sets;
  saved = saved_record s.displays.core.saved;
  parser = parser_record s.displays.core.parser;
  status = status_record s.displays.line;
  flag = flag_number s.tracked.flag;
  unused = replicate 5 0;
}

-- ---- the state of a record

abbrev pub cursor_of : CursorRecord → Cursor
cursor_of c = record { row = c.row; column = c.column; wrap = is_on c.wrap }

abbrev pub modes_of : ModesRecord → Modes
modes_of m = record {
  insert = is_on m.insert;
  newline = is_on m.newline;
  origin = is_on m.origin;
  autowrap = is_on m.autowrap;
  shown = is_on m.shown;
  eightbit = is_on m.eightbit;
  rectangle = is_on m.rectangle;
}

abbrev pub rendition_of : RenditionRecord → Rendition
rendition_of r = record {
  bold = is_on r.bold;
  underline = is_on r.underline;
  blink = is_on r.blink;
  reverse = is_on r.reverse;
}

abbrev pub sets_of : SetsRecord → Sets
sets_of s = record {
  g0 = set_of s.g0;
  g1 = set_of s.g1;
  g2 = set_of s.g2;
  g3 = set_of s.g3;
  gl = register_of s.gl;
  gr = register_of s.gr;
}

abbrev pub saved_of : SavedRecord → Saved
saved_of s = record {
  cursor = cursor_of s.cursor;
  rendition = rendition_of s.rendition;
  origin = is_on s.origin;
  sets = sets_of s.sets;
  protected = is_on s.protected;
  shift = shift_of s.shift;
}

abbrev pub parser_of : ParserRecord → List ℕ → Parser
parser_of p vs = record {
  phase = phase_of p.phase;
  mark = p.mark;
  first = p.first;
  second = p.second;
  params = record { separators = p.separators; values = vs };
}

abbrev pub line_saved_of : LineSavedRecord → LineSaved
line_saved_of s = record {
  column = s.column;
  wrap = is_on s.wrap;
  rendition = rendition_of s.rendition;
  sets = sets_of s.sets;
  protected = is_on s.protected;
  shift = shift_of s.shift;
}

abbrev pub line_of : StatusRecord → StatusLine
line_of s = record {
  present = is_on s.present;
  active = is_on s.active;
  column = s.column;
  wrap = is_on s.wrap;
  saved = line_saved_of s.saved;
}

unfoldable pub core_of : Terminal → ℕ → Core
core_of t rows = record {
  rows = rows;
  cursor = cursor_of t.cursor;
  margins = record { top = t.top; bottom = t.bottom };
  tabs = record { flags = t.tabs };
  modes = modes_of t.modes;
  rendition = rendition_of t.rendition;
  protected = is_on t.protected;
  sets = sets_of t.sets;
  shift = shift_of t.shift;
  saved = saved_of t.saved;
  parser = parser_of t.parser t.values;
}

-- ---- a record whose numbers all name something

abbrev pub rendition_named : RenditionRecord → Bool
rendition_named r = nat_lt r.bold 2 && nat_lt r.underline 2 && nat_lt r.blink 2 && nat_lt r.reverse 2

abbrev pub modes_named : ModesRecord → Bool
modes_named m =
    nat_lt m.insert 2 && nat_lt m.newline 2 && nat_lt m.origin 2 && nat_lt m.autowrap 2 && nat_lt m.shown 2 && nat_lt m.eightbit 2 && nat_lt m.rectangle 2

abbrev pub sets_named : SetsRecord → Bool
sets_named s = nat_lt s.g0 4 && nat_lt s.g1 4 && nat_lt s.g2 4 && nat_lt s.g3 4 && nat_lt s.gl 4 && nat_lt s.gr 4

abbrev pub saved_named : SavedRecord → Bool
saved_named s =
    nat_lt s.cursor.wrap 2
    && rendition_named s.rendition
    && nat_lt s.origin 2
    && sets_named s.sets
    && nat_lt s.protected 2
    && nat_lt s.shift 3

abbrev pub line_saved_named : LineSavedRecord → Bool
line_saved_named s = nat_lt s.wrap 2 && rendition_named s.rendition && sets_named s.sets && nat_lt s.protected 2 && nat_lt s.shift 3

abbrev pub status_named : StatusRecord → Bool
status_named s = nat_lt s.present 2 && nat_lt s.active 2 && nat_lt s.wrap 2 && line_saved_named s.saved

unfoldable pub named : Terminal → Bool
named t =
    nat_lt t.protected 2
    && nat_lt t.shift 3
    && nat_lt t.cursor.wrap 2
    && nat_lt t.parser.phase 11
    && modes_named t.modes
    && rendition_named t.rendition
    && sets_named t.sets
    && saved_named t.saved
    && status_named t.status
    && nat_lt t.flag 2

-- without rows where a number names nothing: no call takes such a state
unfoldable pub state_of : Terminal → State
state_of t = record {
  displays = record { core = core_of t (cond (named t) t.rows 0); line = line_of t.status };
  tracked = record { changed = t.changed; flag = is_on t.flag };
}

-- the state, with a number of rows in the place of its own
unfoldable pub state_with : Terminal → ℕ → State
state_with t rows = record {
  displays = record { core = core_of t rows; line = line_of t.status };
  tracked = record { changed = t.changed; flag = is_on t.flag };
}

-- ---- a record with no row changed and the line's flag off

unfoldable pub emptied : Terminal → Terminal
emptied t = record {
  changed = 0;
  values = t.values;
  tabs = t.tabs;
  rows = t.rows;
  top = t.top;
  bottom = t.bottom;
  protected = t.protected;
  shift = t.shift;
  cursor = t.cursor;
  modes = t.modes;
  rendition = t.rendition;
  sets = t.sets;
  saved = t.saved;
  parser = t.parser;
  status = t.status;
  flag = 0;
  unused = replicate 5 0;
}
