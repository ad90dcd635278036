-- Printing (SCOPE 4).
use Rattle.std.specs.Prelude.{ℕ, ◌-◌, Bool, cond, ◌&&◌, ◌==◌, nat_lt}
use Rattle.cells.specs.declared.CharSet.TheVariants.{Ascii}
use Rattle.page.specs.declared.Edit.{Edit}
use Rattle.page.specs.declared.Edit.TheVariants.{Keep, Put, InsertCells, ScrollUp}
use Rattle.device.specs.declared.charsets.SingleShift.TheVariants.{NoShift}
use Rattle.device.specs.declared.cursor.Cursor.{Cursor}
use Rattle.core_state.specs.declared.Margins.{Margins}
use Rattle.core_state.specs.declared.Modes.{Modes}
use Rattle.core_state.specs.declared.Core.{Core}
use Rattle.core_state.specs.declared.Decision.{Decision}
use Rattle.core_state.specs.declared.geometry.Stops.{Stops}
use Rattle.vt.specs.declared.printing.Printed.{Printed}
use Rattle.device.specs.Cursor.{to_column, index, advance}
use Rattle.core_state.specs.Geometry.{stops_of}
use Rattle.core_state.specs.Glyphs.{used_set, skipped, cell_word, glyph}
use Rattle.core_state.specs.Effects.{with_cursor, with_shift, unedited}

-- ---- the edits

-- IND at the bottom margin: rows T to B scroll up, if there are two or more; one row never scrolls
abbrev pub index_edit : Margins → Stops → Cursor → Edit
index_edit m g u = cond (u.row == m.bottom && nat_lt m.top m.bottom) (ScrollUp (m.top - 1) m.bottom (g.left - 1) g.right 1) Keep

-- the cell is put; in insert mode the cells from the cursor move right one and the last is lost
abbrev pub put_edit : Bool → Stops → Cursor → ℕ → Edit
put_edit insert g u w = cond insert (InsertCells (u.row - 1) (u.column - 1) g.right 1 w) (Put (u.row - 1) (u.column - 1) w)

-- ---- the printing rule, over the parts of a core that it reads

-- the cell is put, and the cursor goes on
abbrev pub print_here : Modes → Stops → Cursor → ℕ → Printed
print_here s g u w = record { cursor = advance u g.right s.autowrap; first = put_edit s.insert g u w; second = Keep }

-- with wrap due, column 1 and IND, a step of its own
abbrev pub line_start : Stops → Cursor → Cursor
line_start g u = to_column u g.left

abbrev pub next_line : Margins → ℕ → Stops → Cursor → Cursor
next_line m rows g u = index (line_start g u) m.bottom rows

-- where the character goes
abbrev pub print_place : Cursor → Margins → ℕ → Stops → Cursor
print_place u m rows g = cond u.wrap (next_line m rows g u) u

abbrev pub print_below : Cursor → Margins → ℕ → Modes → Stops → ℕ → Printed
print_below u m rows s g w = record {
  cursor = advance (next_line m rows g u) g.right s.autowrap;
  first = index_edit m g (line_start g u);
  second = put_edit s.insert g (next_line m rows g u) w;
}

abbrev pub print_at : Cursor → Margins → ℕ → Modes → Stops → ℕ → Printed
print_at u m rows s g w = cond u.wrap (print_below u m rows s g w) (print_here s g u w)

-- by the parts of a core
abbrev pub print_word : Core → ℕ → Printed
print_word c w = print_at c.cursor c.margins c.rows c.modes (stops_of c) w

-- put into a core
abbrev pub printed_in : Core → Printed → Decision
printed_in c p = record { core = with_cursor c p.cursor; first = p.first; second = p.second }

unfoldable pub put : Core → ℕ → Decision
put c w = printed_in c (print_word c w)

-- ---- a byte 20 to 7F or A0 to FF, and SUB

unfoldable pub printed : Core → ℕ → Decision
printed c b =
    cond (skipped (used_set c b) b) (unedited c) (put (with_shift c NoShift) (glyph c b))

-- code 1A of ASCII; it uses no set, and a pending shift stays
unfoldable pub substituted : Core → Decision
substituted c = put c (cell_word c 0x1A Ascii)
