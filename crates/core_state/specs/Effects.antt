-- A core with one field changed, and what a byte does to core and page.
use Rattle.std.specs.Prelude.{ℕ, Bool}
use Rattle.cells.specs.declared.Rendition.{Rendition}
use Rattle.page.specs.declared.Edit.{Edit}
use Rattle.page.specs.declared.Edit.TheVariants.{Keep}
use Rattle.device.specs.declared.cursor.Cursor.{Cursor}
use Rattle.device.specs.declared.tabs.Tabs.{Tabs}
use Rattle.device.specs.declared.charsets.Sets.{Sets}
use Rattle.device.specs.declared.charsets.SingleShift.{SingleShift}
use Rattle.parser.specs.declared.parser.Parser.{Parser}
use Rattle.core_state.specs.declared.Margins.{Margins}
use Rattle.core_state.specs.declared.Modes.{Modes}
use Rattle.core_state.specs.declared.Saved.{Saved}
use Rattle.core_state.specs.declared.Core.{Core}
use Rattle.core_state.specs.declared.Decision.{Decision}

-- the core of these parts, in the order of the struct; no two of them have one type
abbrev pub core_from : ℕ → Cursor → Margins → Tabs → Modes → Rendition → Bool → Sets → SingleShift → Saved → Parser → Core
core_from rows cursor margins tabs modes rendition protected sets shift saved parser =
    record {
      rows = rows;
      cursor = cursor;
      margins = margins;
      tabs = tabs;
      modes = modes;
      rendition = rendition;
      protected = protected;
      sets = sets;
      shift = shift;
      saved = saved;
      parser = parser;
    }

abbrev pub with_rows : Core → ℕ → Core
with_rows c x = core_from x c.cursor c.margins c.tabs c.modes c.rendition c.protected c.sets c.shift c.saved c.parser

abbrev pub with_cursor : Core → Cursor → Core
with_cursor c x = core_from c.rows x c.margins c.tabs c.modes c.rendition c.protected c.sets c.shift c.saved c.parser

abbrev pub with_margins : Core → Margins → Core
with_margins c x = core_from c.rows c.cursor x c.tabs c.modes c.rendition c.protected c.sets c.shift c.saved c.parser

abbrev pub with_tabs : Core → Tabs → Core
with_tabs c x = core_from c.rows c.cursor c.margins x c.modes c.rendition c.protected c.sets c.shift c.saved c.parser

abbrev pub with_modes : Core → Modes → Core
with_modes c x = core_from c.rows c.cursor c.margins c.tabs x c.rendition c.protected c.sets c.shift c.saved c.parser

abbrev pub with_rendition : Core → Rendition → Core
with_rendition c x = core_from c.rows c.cursor c.margins c.tabs c.modes x c.protected c.sets c.shift c.saved c.parser

abbrev pub with_protected : Core → Bool → Core
with_protected c x = core_from c.rows c.cursor c.margins c.tabs c.modes c.rendition x c.sets c.shift c.saved c.parser

abbrev pub with_sets : Core → Sets → Core
with_sets c x = core_from c.rows c.cursor c.margins c.tabs c.modes c.rendition c.protected x c.shift c.saved c.parser

abbrev pub with_shift : Core → SingleShift → Core
with_shift c x = core_from c.rows c.cursor c.margins c.tabs c.modes c.rendition c.protected c.sets x c.saved c.parser

abbrev pub with_saved : Core → Saved → Core
with_saved c x = core_from c.rows c.cursor c.margins c.tabs c.modes c.rendition c.protected c.sets c.shift x c.parser

abbrev pub with_parser : Core → Parser → Core
with_parser c x = core_from c.rows c.cursor c.margins c.tabs c.modes c.rendition c.protected c.sets c.shift c.saved x

-- what is saved, with the cursor at another place
abbrev pub saved_at : Saved → Cursor → Saved
saved_at s u = record { cursor = u; rendition = s.rendition; origin = s.origin; sets = s.sets; protected = s.protected; shift = s.shift }

-- one step with this edit
abbrev pub one_edit : Core → Edit → Decision
one_edit c e = record { core = c; first = e; second = Keep }

-- one step that leaves the page
abbrev pub unedited : Core → Decision
unedited c = one_edit c Keep
