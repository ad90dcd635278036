-- The cursor's moves. Each gives row, column and wrap due together, and takes its stops as arguments.
use Rattle.std.specs.Prelude.{Bool, false, cond, ◌&&◌, ◌||◌, ℕ, ◌+◌, ◌-◌, ◌*◌, min, max, eqb, ltb}
use Rattle.device.specs.declared.cursor.Cursor.{Cursor}
use Rattle.device.specs.declared.tabs.Tabs.{Tabs}
use Rattle.device.specs.Tabs.{next_tab}

-- at a place, no wrap due
abbrev pub place : ℕ → ℕ → Cursor
place r c = record { row = r; column = c; wrap = false }

abbrev pub up : Cursor → ℕ → ℕ → Cursor
up u n stop = place (max stop (u.row - n)) u.column

abbrev pub down : Cursor → ℕ → ℕ → Cursor
down u n stop = place (min stop (u.row + n)) u.column

abbrev pub left : Cursor → ℕ → ℕ → Cursor
left u n stop = place u.row (max stop (u.column - n))

abbrev pub right : Cursor → ℕ → ℕ → Cursor
right u n stop = place u.row (min stop (u.column + n))

abbrev pub to_column : Cursor → ℕ → Cursor
to_column u c = place u.row c

-- HT: the next tab, else the last column
abbrev pub tab : Cursor → Tabs → ℕ → Cursor
tab u t last = place u.row (next_tab t u.column last)

-- IND without its scroll: at the bottom margin and in the last row it stays
abbrev pub index : Cursor → ℕ → ℕ → Cursor
index u bottom rows = place (cond (eqb u.row bottom || eqb u.row rows) u.row (u.row + 1)) u.column

-- RI, mirrored
abbrev pub reverse_index : Cursor → ℕ → Cursor
reverse_index u top = place (cond (eqb u.row top || eqb u.row 1) u.row (u.row - 1)) u.column

-- after a character was put: at the last column wrap due becomes autowrap, else the next column
abbrev pub advance : Cursor → ℕ → Bool → Cursor
advance u last autowrap =
    cond (ltb u.column last) (place u.row (u.column + 1))
    (record { row = u.row; column = u.column; wrap = autowrap })

-- a saved cursor comes back: its row held to top and bottom, wrap due only if autowrap is on
abbrev pub restore : Cursor → ℕ → ℕ → Bool → Cursor
restore u top bottom autowrap = record { row = max top (min bottom u.row); column = u.column; wrap = u.wrap && autowrap }

-- where it is, no wrap due
abbrev pub no_wrap : Cursor → Cursor
no_wrap u = place u.row u.column

-- how many cells stand before the cursor's, in reading order
abbrev pub offset : Cursor → ℕ
offset u = 80 * (u.row - 1) + (u.column - 1)
