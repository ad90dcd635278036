-- Control sequences (SCOPE 5.23 to 5.46), where they are not ignored: dispatch/specs/Heard.antt says what is. Wrap due is in WrapDue.antt
-- there. An intermediate or a mark that is not there is 0.
use Rattle.std.specs.Prelude.{ℕ, ◌+◌, ◌-◌, ◌*◌, min, max, Bool, true, false, cond, ◌||◌, ◌==◌, nat_le, nat_lt}
use Rattle.cells.specs.declared.Rendition.{Rendition}
use Rattle.page.specs.declared.Edit.{Edit}
use Rattle.page.specs.declared.Edit.TheVariants.{InsertCells, DeleteCells, ScrollUp, ScrollDown, FillRange, ChangeRange}
use Rattle.cells.specs.declared.CellChange.TheVariants.{SelectiveErase}
use Rattle.cells.specs.Cells.{plain, blank}
use Rattle.parser.specs.declared.params.Params.{Params}
use Rattle.core_state.specs.declared.Margins.{Margins}
use Rattle.core_state.specs.declared.Core.{Core}
use Rattle.core_state.specs.declared.Decision.{Decision}
use Rattle.ground.specs.Folds.{folded}
use Rattle.parser.specs.Params.{param, param_n, param_list, numbers}
use Rattle.parser.specs.Families.{is_plain, is_private, is_protection, is_soft_reset, is_dollar, is_extent}
use Rattle.device.specs.Tabs.{without_tab, no_tabs}
use Rattle.device.specs.Cursor.{place, up, down, left, right, to_column, offset}
use Rattle.core_state.specs.Fresh.{fresh_core}
use Rattle.core_state.specs.Geometry.{left_stop, right_stop, top_stop, bottom_stop, first_row, last_row, home}
use Rattle.core_state.specs.Modes.{with_insert, with_newline, with_origin, with_autowrap, with_shown}
use Rattle.rectangles.specs.Functions.{rectangle_edit, select_extent}
use Rattle.core_state.specs.StatusLine.{is_line}
use Rattle.core_state.specs.Effects.{with_cursor, with_margins, with_tabs, with_modes, with_rendition, with_protected, one_edit, unedited}

-- ---- moving the cursor

-- A (CUU), B (CUD), C (CUF), D (CUB): n rows or columns, to the stop
abbrev pub cursor_up : Core → ℕ → Decision
cursor_up c n = unedited (with_cursor c (up c.cursor n (top_stop c)))

abbrev pub cursor_down : Core → ℕ → Decision
cursor_down c n = unedited (with_cursor c (down c.cursor n (bottom_stop c)))

abbrev pub cursor_right : Core → ℕ → Decision
cursor_right c n = unedited (with_cursor c (right c.cursor n (right_stop c)))

abbrev pub cursor_left : Core → ℕ → Decision
cursor_left c n = unedited (with_cursor c (left c.cursor n (left_stop c)))

-- the row of a position: held to the page; with origin on row 1 is T, held to B
abbrev pub row_at : Core → ℕ → ℕ
row_at c r = min (first_row c + r - 1) (last_row c)

-- H (CUP), f (HVP): row and column, 0 as 1
abbrev pub cursor_position : Core → ℕ → ℕ → Decision
cursor_position c r k = unedited (with_cursor c (place (row_at c (max 1 r)) (min (max 1 k) (right_stop c))))

-- ---- erasing

-- the cells of a range from `base` to `end` that a selector names, where the cursor's is the one at `at`: 0 from it on, 1 up to it, 2 all
abbrev pub erased : Core → ℕ → ℕ → ℕ → (ℕ → ℕ → Edit) → Decision
erased c s base end edit =
    let at = offset c.cursor in
    one_edit c (edit (cond (s == 0) at base) (cond (s == 1) (at + 1) end))

abbrev pub to_blank : ℕ → ℕ → Edit
to_blank a z = FillRange a z blank

abbrev pub to_space : ℕ → ℕ → Edit
to_space a z = ChangeRange a z SelectiveErase

-- J (ED) in the page, K (EL) in the row; with ? selectively (DECSED, DECSEL)
abbrev pub in_page : Core → ℕ → (ℕ → ℕ → Edit) → Decision
in_page c s edit = erased c s 0 (80 * c.rows) edit

abbrev pub row_start : Core → ℕ
row_start c = 80 * (c.cursor.row - 1)

abbrev pub in_row : Core → ℕ → (ℕ → ℕ → Edit) → Decision
in_row c s edit = erased c s (row_start c) (row_start c + 80) edit

-- X (ECH): n cells in the row
abbrev pub erase_characters : Core → ℕ → Decision
erase_characters c n =
    let at = offset c.cursor in
    one_edit c (FillRange at (min (at + n) (row_start c + 80)) blank)

-- ---- inserting and deleting

-- how many rows there are from the cursor's to B, and how many cells from the cursor's to the right stop
abbrev pub rows_below : Core → ℕ
rows_below c = c.margins.bottom - (c.cursor.row - 1)

abbrev pub cells_right : Core → ℕ
cells_right c = right_stop c - (c.cursor.column - 1)

-- L (IL), M (DL): n rows, and column 1
abbrev pub insert_lines : Core → ℕ → Decision
insert_lines c n =
    one_edit (with_cursor c (to_column c.cursor (left_stop c)))
    (ScrollDown (c.cursor.row - 1) c.margins.bottom (left_stop c - 1) (right_stop c) (min n (rows_below c)))

abbrev pub delete_lines : Core → ℕ → Decision
delete_lines c n =
    one_edit (with_cursor c (to_column c.cursor (left_stop c)))
    (ScrollUp (c.cursor.row - 1) c.margins.bottom (left_stop c - 1) (right_stop c) (min n (rows_below c)))

-- @ (ICH), P (DCH): n cells
abbrev pub insert_characters : Core → ℕ → Decision
insert_characters c n = one_edit c (InsertCells (c.cursor.row - 1) (c.cursor.column - 1) (right_stop c) (min n (cells_right c)) blank)

abbrev pub delete_characters : Core → ℕ → Decision
delete_characters c n = one_edit c (DeleteCells (c.cursor.row - 1) (c.cursor.column - 1) (right_stop c) (min n (cells_right c)))

-- ---- tabs, modes, rendition, protection: h, l and m take all parameters in order

-- g (TBC): 0 the tab here, 3 all
abbrev pub clear_tabs : Core → Params → Decision
clear_tabs c q =
    cond (param q 0 == 0) (unedited (with_tabs c (without_tab c.tabs c.cursor.column)))
    (cond (param q 0 == 3) (unedited (with_tabs c no_tabs)) (unedited c))

-- 4 insert (IRM), 20 newline (LNM)
abbrev pub ansi_mode : Bool → Core → ℕ → Core
ansi_mode on c v =
    cond (v == 4) (with_modes c (with_insert c.modes on))
    (cond (v == 20) (with_modes c (with_newline c.modes on)) c)

-- ?6 (DECOM): cursor home, with origin as it now is
abbrev pub origin_mode : Bool → Core → Core
origin_mode on c = let d = with_modes c (with_origin c.modes on) in with_cursor d (home d)

-- ?6 origin, which the status line ignores, ?7 autowrap (DECAWM), ?25 cursor shown (DECTCEM)
abbrev pub dec_mode : Bool → Core → ℕ → Core
dec_mode on c v =
    cond (v == 6) (cond (is_line c) c (origin_mode on c))
    (cond (v == 7) (with_modes c (with_autowrap c.modes on))
    (cond (v == 25) (with_modes c (with_shown c.modes on)) c))

-- one value of h (SM), l (RM); private with ?
abbrev pub mode_set : Bool → Bool → Core → ℕ → Core
mode_set private on c v = cond private (dec_mode on c v) (ansi_mode on c v)

abbrev pub modes_set : Bool → Bool → Core → Params → Decision
modes_set private on c q = unedited (folded (mode_set private on) c (param_list q))

abbrev pub with_bold : Rendition → Bool → Rendition
with_bold r on = record r { bold = on }

abbrev pub with_underline : Rendition → Bool → Rendition
with_underline r on = record r { underline = on }

abbrev pub with_blink : Rendition → Bool → Rendition
with_blink r on = record r { blink = on }

abbrev pub with_reverse : Rendition → Bool → Rendition
with_reverse r on = record r { reverse = on }

-- one value of m (SGR)
unfoldable pub rendered : Rendition → ℕ → Rendition
rendered r v =
    cond (v == 0) plain
    (cond (v == 1) (with_bold r true)
    (cond (v == 4) (with_underline r true)
    (cond (v == 5) (with_blink r true)
    (cond (v == 7) (with_reverse r true)
    (cond (v == 22) (with_bold r false)
    (cond (v == 24) (with_underline r false)
    (cond (v == 25) (with_blink r false)
    (cond (v == 27) (with_reverse r false) r))))))))

-- a subparameter is skipped, and so is a parameter that has one
abbrev pub select_rendition : Core → Params → Decision
select_rendition c q = unedited (with_rendition c (folded rendered c.rendition (numbers (param_list q))))

-- " q (DECSCA): 1 protects, 0 and 2 don't
abbrev pub select_protection : Core → Params → Decision
select_protection c q =
    cond (param q 0 == 1) (unedited (with_protected c true))
    (cond (nat_le (param q 0) 2) (unedited (with_protected c false)) (unedited c))

-- ---- margins and soft reset

-- r (DECSTBM): top 0 as 1; bottom 0 or above R as R
abbrev pub requested_margins : Core → Params → Margins
requested_margins c q = record { top = param_n q; bottom = cond (param q 1 == 0 || nat_lt c.rows (param q 1)) c.rows (param q 1) }

-- unless top < bottom they are ignored
abbrev pub margins_taken : Core → Params → Bool
margins_taken c q = nat_lt (requested_margins c q).top (requested_margins c q).bottom

-- then cursor home, with the new margins
abbrev pub set_margins : Core → Params → Decision
set_margins c q = let d = with_margins c (requested_margins c q) in unedited (with_cursor d (home d))

-- ! p (DECSTR): these fields from fresh; cursor, tabs, newline, reply width and extent stay
unfoldable pub soft_reset : Core → Core
soft_reset c =
    let f = fresh_core c.rows in
    record c {
      margins = f.margins;
      modes = record c.modes { insert = f.modes.insert; origin = f.modes.origin; autowrap = f.modes.autowrap; shown = f.modes.shown };
      rendition = f.rendition;
      protected = f.protected;
      sets = f.sets;
      shift = f.shift;
      saved = f.saved;
    }

-- ---- the sequences

-- with no mark and no intermediate: ICH, CUU, CUD, CUF, CUB, CUP, ED, EL, IL, DL, DCH, ECH, HVP, TBC, SM, RM, SGR, DECSTBM
abbrev pub plain_sequence : Core → Params → ℕ → Decision
plain_sequence c q last =
    cond (last == 0x40) (insert_characters c (param_n q))
    (cond (last == 0x41) (cursor_up c (param_n q))
    (cond (last == 0x42) (cursor_down c (param_n q))
    (cond (last == 0x43) (cursor_right c (param_n q))
    (cond (last == 0x44) (cursor_left c (param_n q))
    (cond (last == 0x48) (cursor_position c (param q 0) (param q 1))
    (cond (last == 0x4A) (in_page c (param q 0) to_blank)
    (cond (last == 0x4B) (in_row c (param q 0) to_blank)
    (cond (last == 0x4C) (insert_lines c (param_n q))
    (cond (last == 0x4D) (delete_lines c (param_n q))
    (cond (last == 0x50) (delete_characters c (param_n q))
    (cond (last == 0x58) (erase_characters c (param_n q))
    (cond (last == 0x66) (cursor_position c (param q 0) (param q 1))
    (cond (last == 0x67) (clear_tabs c q)
    (cond (last == 0x68) (modes_set false true c q)
    (cond (last == 0x6C) (modes_set false false c q)
    (cond (last == 0x6D) (select_rendition c q)
    (cond (last == 0x72) (set_margins c q)
    (unedited c))))))))))))))))))

-- with the mark ?: DECSED, DECSEL, SM, RM
abbrev pub private_sequence : Core → Params → ℕ → Decision
private_sequence c q last =
    cond (last == 0x4A) (in_page c (param q 0) to_space)
    (cond (last == 0x4B) (in_row c (param q 0) to_space)
    (cond (last == 0x68) (modes_set true true c q)
    (cond (last == 0x6C) (modes_set true false c q)
    (unedited c))))

-- besides these DECSCA, DECSTR, the functions on rectangles and DECSACE
unfoldable pub sequenced : Core → Params → ℕ → ℕ → ℕ → ℕ → Decision
sequenced c q mark first second last =
    cond (is_plain mark first second) (plain_sequence c q last)
    (cond (is_private mark first second) (private_sequence c q last)
    (cond (is_protection mark first second last) (select_protection c q)
    (cond (is_soft_reset mark first second last) (unedited (soft_reset c))
    (cond (is_dollar mark first second) (one_edit c (rectangle_edit c q last))
    (cond (is_extent mark first second last) (select_extent c q)
    (unedited c))))))
