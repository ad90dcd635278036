-- The host-writable status line (SCOPE 5.61 to 5.77, 1.31): while it is active, bytes act on it as on a page of one row.
use Rattle.std.specs.Prelude.{ℕ, Bool, false, ◌&&◌, ◌==◌}
use Rattle.device.specs.declared.cursor.Cursor.{Cursor}
use Rattle.core_state.specs.declared.Saved.{Saved}
use Rattle.core_state.specs.declared.Core.{Core}
use Rattle.core_state.specs.declared.LineSaved.{LineSaved}
use Rattle.core_state.specs.declared.StatusLine.{StatusLine}
use Rattle.core_state.specs.Effects.{core_from}
use Rattle.core_state.specs.Fresh.{fresh_saved}
use Rattle.core_state.specs.Modes.{with_origin}

-- ---- the line as a page of one row, margins and origin set aside

-- the line is the only page of one row
abbrev pub is_line : Core → Bool
is_line c = c.rows == 1

abbrev pub in_line : ℕ → Bool → Cursor
in_line column wrap = record { row = 1; column = column; wrap = wrap }

-- what is saved of the line, as a page of one row has it, and back
abbrev pub line_saved : LineSaved → Saved
line_saved s =
    record { cursor = in_line s.column s.wrap; rendition = s.rendition; origin = false; sets = s.sets; protected = s.protected; shift = s.shift }

abbrev pub saved_line : Saved → LineSaved
saved_line s =
    record { column = s.cursor.column; wrap = s.cursor.wrap; rendition = s.rendition; sets = s.sets; protected = s.protected; shift = s.shift }

-- what page and line share is the core's
unfoldable pub line_view : Core → StatusLine → Core
line_view c l =
    core_from 1 (in_line l.column l.wrap) (record { top = 1; bottom = 1 }) c.tabs (with_origin c.modes false) c.rendition c.protected
    c.sets c.shift (line_saved l.saved) c.parser

-- ---- what an action leaves

abbrev pub page_cursor : Cursor → Bool → Cursor
page_cursor u autowrap = record { row = u.row; column = u.column; wrap = u.wrap && autowrap }

-- of the page after an action on the line: what they share is as the action left it, and a wrap due lasts while autowrap is on
unfoldable pub page_behind : Core → Core → Core
page_behind c d =
    core_from c.rows (page_cursor c.cursor d.modes.autowrap) c.margins d.tabs (with_origin d.modes c.modes.origin) d.rendition
    d.protected d.sets d.shift c.saved d.parser

-- of the line after an action on it
abbrev pub line_behind : StatusLine → Core → StatusLine
line_behind l d =
    record { present = l.present; active = l.active; column = d.cursor.column; wrap = d.cursor.wrap; saved = saved_line d.saved }

-- of the line after an action on the page
abbrev pub line_beside : StatusLine → Bool → StatusLine
line_beside l autowrap = record { present = l.present; active = l.active; column = l.column; wrap = l.wrap && autowrap; saved = l.saved }

-- no line, its cursor in column 1
abbrev pub fresh_line : StatusLine
fresh_line = record { present = false; active = false; column = 1; wrap = false; saved = saved_line fresh_saved }
