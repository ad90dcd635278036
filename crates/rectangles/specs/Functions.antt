-- The functions on rectangles (SCOPE 5.49 to 5.57): the edit of each, which is its one step. Only DECSACE changes the core; WrapDue.antt in dispatch says
-- that wrap due stays.
use Rattle.std.specs.Prelude.{ℕ, ◌+◌, ◌-◌, ◌*◌, min, Bool, true, false, cond, not, ◌&&◌, ◌||◌, ◌==◌, nat_le, Option, None, Some}
use Rattle.ground.specs.Tests.{between}
use Rattle.cells.specs.declared.Styling.{Styling}
use Rattle.cells.specs.declared.CellChange.{CellChange}
use Rattle.cells.specs.declared.CellChange.TheVariants.{SelectiveErase, Restyle}
use Rattle.cells.specs.Cells.{blank, styling_number}
use Rattle.page.specs.declared.Edit.{Edit}
use Rattle.page.specs.declared.Edit.TheVariants.{Keep, ChangeRange, FillRectangle, ChangeRectangle, CopyRectangle}
use Rattle.parser.specs.declared.params.Params.{Params}
use Rattle.parser.specs.Params.{param}
use Rattle.device.specs.declared.charsets.SingleShift.TheVariants.{NoShift}
use Rattle.core_state.specs.declared.Core.{Core}
use Rattle.core_state.specs.declared.Decision.{Decision}
use Rattle.core_state.specs.Glyphs.{used_set, skipped, glyph}
use Rattle.core_state.specs.Modes.{with_rectangle}
use Rattle.core_state.specs.Effects.{with_modes, with_shift, unedited}
use Rattle.rectangles.specs.declared.areas.Area.{Area}
use Rattle.rectangles.specs.Areas.{row_edge, column_edge, area_at, is_taken}
use Rattle.rectangles.specs.Attributes.{restyling_of}

-- ---- erase and fill

abbrev pub filled : Area → ℕ → Edit
filled a w = FillRectangle (a.top - 1) a.bottom (a.left - 1) a.right w

-- a code that is a byte of GL or GR
abbrev pub is_graphic : ℕ → Bool
is_graphic n = between 0x20 n 0x7F || between 0xA0 n 0xFF

-- one that printing puts into a cell, without a shift
abbrev pub is_printed : Core → ℕ → Bool
is_printed c n = is_graphic n && not (skipped (used_set (with_shift c NoShift) n) n)

-- $ x (DECFRA)
abbrev pub fill_rectangle : Core → Params → Area → Edit
fill_rectangle c q a = cond (is_printed c (param q 0)) (filled a (glyph (with_shift c NoShift) (param q 0))) Keep

-- ---- cells that change by what they hold

abbrev pub changed : Area → CellChange → Edit
changed a m = ChangeRectangle (a.top - 1) a.bottom (a.left - 1) a.right m

-- from the area's first cell to its last, in reading order
abbrev pub changed_stream : Area → CellChange → Edit
changed_stream a m = ChangeRange (80 * (a.top - 1) + (a.left - 1)) (80 * (a.bottom - 1) + a.right) m

-- the extent decides between the two
abbrev pub restyled : Bool → Area → Styling → Edit
restyled rectangle a s = cond rectangle (changed a (Restyle (styling_number s))) (changed_stream a (Restyle (styling_number s)))

-- by what a list makes of the attributes, if anything
abbrev pub if_styled : Bool → Area → Option Styling → Edit
if_styled rectangle a (Some s) = restyled rectangle a s
if_styled rectangle a None = Keep

-- $ r (DECCARA), and reversing $ t (DECRARA); where no value is one of the function's, it is ignored
abbrev pub change_attributes : Bool → Params → Area → Bool → Edit
change_attributes rectangle q a reversing = if_styled rectangle a (restyling_of reversing q)

-- * x (DECSACE): 0 and 1 a stream, 2 a rectangle
abbrev pub select_extent : Core → Params → Decision
select_extent c q =
    cond (nat_le (param q 0) 1) (unedited (with_modes c (with_rectangle c.modes false)))
    (cond (param q 0 == 2) (unedited (with_modes c (with_rectangle c.modes true))) (unedited c))

-- ---- copy

-- an area to the place whose top and left these are, cut off at the edge of a page of so many rows
abbrev pub copied : ℕ → Area → ℕ → ℕ → Edit
copied rows a t l =
    CopyRectangle (t - 1) (min rows (t + (a.bottom - a.top))) (l - 1) (min 80 (l + (a.right - a.left))) (a.top - 1) (a.left - 1)

-- $ v (DECCRA): after the edges a page, the top and left of the place, its page; a page number must be 0 or 1
abbrev pub copy_rectangle : Core → Params → Area → Edit
copy_rectangle c q a = cond (nat_le (param q 4) 1 && nat_le (param q 7) 1) (copied c.rows a (row_edge c (param q 5) 1) (column_edge (param q 6) 1)) Keep

-- ---- by the final byte

-- in an area that is taken; besides these $ z (DECERA) and $ { (DECSERA)
abbrev pub edit_in : Core → Params → Area → ℕ → Edit
edit_in c q a last =
    cond (last == 0x72) (change_attributes c.modes.rectangle q a false)
    (cond (last == 0x74) (change_attributes c.modes.rectangle q a true)
    (cond (last == 0x76) (copy_rectangle c q a)
    (cond (last == 0x78) (fill_rectangle c q a)
    (cond (last == 0x7A) (filled a blank)
    (cond (last == 0x7B) (changed a SelectiveErase)
    Keep)))))

-- the edges come first, but for a fill's, which come after its code
abbrev pub rectangle_edit : Core → Params → ℕ → Edit
rectangle_edit c q last =
    let a = area_at c q (cond (last == 0x78) 1 0) in
    cond (is_taken a) (edit_in c q a last) Keep
