-- Where the cursor stops and where it goes home. Columns and rows are counted from 1.
use Rattle.std.specs.Prelude.{ℕ, cond, nat_le}
use Rattle.device.specs.declared.cursor.Cursor.{Cursor}
use Rattle.core_state.specs.declared.Core.{Core}
use Rattle.core_state.specs.declared.geometry.Stops.{Stops}
use Rattle.device.specs.Cursor.{place}

-- ---- columns: printing, moves, tabs, inserts and scrolls keep between these

abbrev pub left_stop : Core → ℕ
left_stop c = 1

abbrev pub right_stop : Core → ℕ
right_stop c = 80

abbrev pub stops_of : Core → Stops
stops_of c = record { left = left_stop c; right = right_stop c }

-- ---- rows

-- where CUU stops: at T if not already above it, else at the page's edge
abbrev pub top_stop : Core → ℕ
top_stop c = cond (nat_le c.margins.top c.cursor.row) c.margins.top 1

-- where CUD stops
abbrev pub bottom_stop : Core → ℕ
bottom_stop c = cond (nat_le c.cursor.row c.margins.bottom) c.margins.bottom c.rows

-- the row that positions count as 1: T with origin on
abbrev pub first_row : Core → ℕ
first_row c = cond c.modes.origin c.margins.top 1

-- the last row of a position: B with origin on
abbrev pub last_row : Core → ℕ
last_row c = cond c.modes.origin c.margins.bottom c.rows

-- ---- home

abbrev pub home : Core → Cursor
home c = place (first_row c) 1
