-- The commands B and Q: a state with one field changed, or with another parser.
use Rattle.std.specs.Prelude.{ℕ, ◌+◌, ◌*◌, ◌%◌, ◌^◌, Bool, false, cond, not, List, [], ◌∷◌, drop, ◌==◌, slice_index}
use Rattle.device.specs.declared.cursor.Cursor.{Cursor}
use Rattle.parser.specs.declared.parser.Parser.{Parser}
use Rattle.parser.specs.Phases.{phase_of}
use Rattle.core_state.specs.declared.Core.{Core}
use Rattle.core_state.specs.declared.LineSaved.{LineSaved}
use Rattle.core_state.specs.declared.StatusLine.{StatusLine}
use Rattle.core_state.specs.Modes.{with_origin, with_autowrap, with_shown}
use Rattle.core_state.specs.Effects.{with_rows, saved_at, with_cursor, with_margins, with_modes, with_saved, with_parser}
use Rattle.steps.specs.declared.State.{State}
use Rattle.steps.specs.declared.Tracked.{Tracked}
use Rattle.steps.specs.Steps.{noted}

-- ---- B

abbrev pub with_row : Cursor → ℕ → Cursor
with_row u n = record { row = n; column = u.column; wrap = u.wrap }

abbrev pub with_column : Cursor → ℕ → Cursor
with_column u n = record { row = u.row; column = n; wrap = u.wrap }

abbrev pub with_wrap : Cursor → Bool → Cursor
with_wrap u on = record { row = u.row; column = u.column; wrap = on }

-- the fields that are numbers; another field is left
unfoldable pub number_poked : Core → ℕ → ℕ → Core
number_poked c field n =
    cond (field == 0) (with_rows c n)
    (cond (field == 1) (with_cursor c (with_row c.cursor n))
    (cond (field == 2) (with_cursor c (with_column c.cursor n))
    (cond (field == 4) (with_margins c (record { top = n; bottom = c.margins.bottom }))
    (cond (field == 5) (with_margins c (record { top = c.margins.top; bottom = n }))
    (cond (field == 8) (with_saved c (saved_at c.saved (with_row c.saved.cursor n)))
    (cond (field == 9) (with_saved c (saved_at c.saved (with_column c.saved.cursor n))) c))))))

-- the fields that are flags; another field is left
unfoldable pub flag_poked : Core → ℕ → Bool → Core
flag_poked c field on =
    cond (field == 3) (with_cursor c (with_wrap c.cursor on))
    (cond (field == 6) (with_modes c (with_origin c.modes on))
    (cond (field == 7) (with_modes c (with_autowrap c.modes on))
    (cond (field == 10) (with_saved c (saved_at c.saved (with_wrap c.saved.cursor on)))
    (cond (field == 11) (with_modes c (with_shown c.modes on)) c))))

-- fields 0 to 11: a number, or a flag as whether it is not 0
unfoldable pub poked_core : Core → ℕ → ℕ → Core
poked_core c field n = flag_poked (number_poked c field n) field (not (n == 0))

-- the line with other fields of those that are poked
abbrev pub line_from : Bool → Bool → ℕ → Bool → LineSaved → StatusLine
line_from present active column wrap saved = record { present = present; active = active; column = column; wrap = wrap; saved = saved }

abbrev pub line_saved_at : LineSaved → ℕ → Bool → LineSaved
line_saved_at s column wrap =
    record { column = column; wrap = wrap; rendition = s.rendition; sets = s.sets; protected = s.protected; shift = s.shift }

unfoldable pub line_number_poked : StatusLine → ℕ → ℕ → StatusLine
line_number_poked l field n =
    cond (field == 15) (line_from l.present l.active n l.wrap l.saved)
    (cond (field == 17) (line_from l.present l.active l.column l.wrap (line_saved_at l.saved n l.saved.wrap)) l)

unfoldable pub line_flag_poked : StatusLine → ℕ → Bool → StatusLine
line_flag_poked l field on =
    cond (field == 13) (line_from on l.active l.column l.wrap l.saved)
    (cond (field == 14) (line_from l.present on l.column l.wrap l.saved)
    (cond (field == 16) (line_from l.present l.active l.column on l.saved)
    (cond (field == 18) (line_from l.present l.active l.column l.wrap (line_saved_at l.saved l.saved.column on)) l)))

-- fields 13 to 18, of the line
unfoldable pub poked_line : StatusLine → ℕ → ℕ → StatusLine
poked_line l field n = line_flag_poked (line_number_poked l field n) field (not (n == 0))

-- field 12 adds row ((n + 63) mod 64) + 1 to the changed ones, field 19 is the line's changed flag
unfoldable pub poked_tracked : Tracked → ℕ → ℕ → Tracked
poked_tracked t field n =
    cond (field == 12) (noted t (2 ^ ((n + 63) % 64)) false)
    (cond (field == 19) (record { changed = t.changed; flag = not (n % 256 == 0) }) t)

-- each field is of one of the three
abbrev pub poked : State → ℕ → ℕ → State
poked s field n = record {
  displays = record { core = poked_core s.displays.core field (n % 256); line = poked_line s.displays.line field (n % 256) };
  tracked = poked_tracked s.tracked field n;
}

-- ---- Q

-- numbers of two bytes, the lowest first
abbrev pub numbers_of : List ℕ → List ℕ
numbers_of [] = []
numbers_of (a ∷ []) = []
numbers_of (a ∷ b ∷ bs) = (a + 256 * b) ∷ numbers_of bs

-- phase, mark, two intermediates, separators, then the values
unfoldable pub parser_of : List ℕ → Parser
parser_of bs = record {
  phase = phase_of (slice_index bs 0 % 11);
  mark = slice_index bs 1;
  first = slice_index bs 2;
  second = slice_index bs 3;
  params = record { separators = slice_index bs 4; values = numbers_of (drop 5 bs) };
}

abbrev pub parser_poked : State → List ℕ → State
parser_poked s bs =
    record { displays = record { core = with_parser s.displays.core (parser_of bs); line = s.displays.line }; tracked = s.tracked }
