-- The controls: below 20 and 80 to 9F (SCOPE 5.2 to 5.12). Wrap due is in WrapDue.antt.
use Rattle.std.specs.Prelude.{ℕ, ◌-◌, cond, ◌&&◌, ◌==◌, nat_lt}
use Rattle.page.specs.declared.Edit.{Edit}
use Rattle.page.specs.declared.Edit.TheVariants.{Keep, ScrollDown}
use Rattle.device.specs.declared.charsets.Register.TheVariants.{G0, G1}
use Rattle.device.specs.declared.charsets.SingleShift.TheVariants.{Ss2, Ss3}
use Rattle.device.specs.declared.cursor.Cursor.{Cursor}
use Rattle.core_state.specs.declared.Margins.{Margins}
use Rattle.core_state.specs.declared.Core.{Core}
use Rattle.core_state.specs.declared.Decision.{Decision}
use Rattle.core_state.specs.declared.geometry.Stops.{Stops}
use Rattle.device.specs.Charsets.{with_gl}
use Rattle.device.specs.Tabs.{with_tab}
use Rattle.device.specs.Cursor.{left, tab, to_column, index, reverse_index}
use Rattle.core_state.specs.Geometry.{left_stop, right_stop, stops_of}
use Rattle.vt.specs.Printing.{index_edit}
use Rattle.core_state.specs.Effects.{with_cursor, with_tabs, with_sets, with_shift, one_edit, unedited}

-- ---- lines

-- IND, from a cursor
abbrev pub index_from : Core → Cursor → Decision
index_from c u = one_edit (with_cursor c (index u c.margins.bottom c.rows)) (index_edit c.margins (stops_of c) u)

abbrev pub indexed : Core → Decision
indexed c = index_from c c.cursor

-- NEL: column 1 and IND
abbrev pub next_lined : Core → Decision
next_lined c = index_from c (to_column c.cursor (left_stop c))

-- LF, VT, FF: IND, and column 1 in newline mode
abbrev pub line_fed : Core → Decision
line_fed c = cond c.modes.newline (next_lined c) (indexed c)

-- RI at the top margin: rows T to B scroll down, if there are two or more
abbrev pub reverse_index_edit : Margins → Stops → Cursor → Edit
reverse_index_edit m g u = cond (u.row == m.top && nat_lt m.top m.bottom) (ScrollDown (m.top - 1) m.bottom (g.left - 1) g.right 1) Keep

abbrev pub reverse_indexed : Core → Decision
reverse_indexed c = one_edit (with_cursor c (reverse_index c.cursor c.margins.top)) (reverse_index_edit c.margins (stops_of c) c.cursor)

-- ---- columns

-- BS: left, to the left stop
abbrev pub backspaced : Core → Decision
backspaced c = unedited (with_cursor c (left c.cursor 1 (left_stop c)))

-- HT: the next tab, else the right stop
abbrev pub tabbed : Core → Decision
tabbed c = unedited (with_cursor c (tab c.cursor c.tabs (right_stop c)))

-- CR: column 1
abbrev pub returned : Core → Decision
returned c = unedited (with_cursor c (to_column c.cursor (left_stop c)))

-- HTS: a tab at the cursor's column
abbrev pub tab_set : Core → Decision
tab_set c = unedited (with_tabs c (with_tab c.tabs c.cursor.column))

-- ---- the controls

-- BS, HT, LF, VT, FF, CR, SO (G1 into GL), SI (G0 into GL); others: nothing
unfoldable pub controlled : Core → ℕ → Decision
controlled c b =
    cond (b == 0x08) (backspaced c)
    (cond (b == 0x09) (tabbed c)
    (cond (b == 0x0A) (line_fed c)
    (cond (b == 0x0B) (line_fed c)
    (cond (b == 0x0C) (line_fed c)
    (cond (b == 0x0D) (returned c)
    (cond (b == 0x0E) (unedited (with_sets c (with_gl c.sets G1)))
    (cond (b == 0x0F) (unedited (with_sets c (with_gl c.sets G0)))
    (unedited c))))))))

-- IND, NEL, HTS, RI, SS2, SS3; others, DECID among them, leave core and page
unfoldable pub c1_controlled : Core → ℕ → Decision
c1_controlled c b =
    cond (b == 0x84) (indexed c)
    (cond (b == 0x85) (next_lined c)
    (cond (b == 0x88) (tab_set c)
    (cond (b == 0x8D) (reverse_indexed c)
    (cond (b == 0x8E) (unedited (with_shift c Ss2))
    (cond (b == 0x8F) (unedited (with_shift c Ss3))
    (unedited c))))))
