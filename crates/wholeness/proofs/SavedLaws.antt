-- ESC 7 and ESC 8 together.
use Rattle.std.proofs.Common.{◌≡◌, min, max, Bool, true, false, cond, ◌&&◌, refl, ap, arith}
use Rattle.cells.specs.declared.Rendition.{Rendition}
use Rattle.device.specs.declared.cursor.Cursor.{Cursor}
use Rattle.device.specs.declared.tabs.Tabs.{Tabs}
use Rattle.device.specs.declared.charsets.Sets.{Sets}
use Rattle.device.specs.declared.charsets.SingleShift.{SingleShift}
use Rattle.parser.specs.declared.parser.Parser.{Parser}
use Rattle.core_state.specs.declared.Core.{Core}
use Rattle.core_state.specs.declared.Saved.{Saved}
use Rattle.core_state.specs.declared.LineSaved.{LineSaved}
use Rattle.core_state.specs.declared.StatusLine.{StatusLine}
use Rattle.core_state.specs.Effects.{core_from, unedited}
use Rattle.core_state.specs.Modes.{with_origin}
use Rattle.core_state.specs.StatusLine.{line_view, line_saved, saved_line, line_behind}
use Rattle.core_state.specs.Whole.{Whole}
use Rattle.vt.specs.Escapes.{saved_of, save_cursor, restored_from, restore_cursor}

and-implied : (a b : Bool) → (a ≡ true → b ≡ true) → a && b ≡ a
and-implied true b h = h refl
and-implied false b h = refl

module _ (c : Core) (w : Whole c) where
  row_kept : (o : Bool) → c.modes.origin ≡ o →
      max (cond o c.margins.top 1) (min (cond o c.margins.bottom c.rows) c.cursor.row) ≡ c.cursor.row
  row_kept true e = omega (arith, w.parts.origin.low e, w.parts.origin.high e)
  row_kept false e = omega arith

  -- Wherever the cursor went since, and whatever characters were written with: while rows, margins and the other modes are the same, what
  -- was saved comes back, and the rest is as it then is.
  pub saved-comes-back : (u : Cursor) (t : Tabs) (o : Bool) (r : Rendition) (p : Bool) (g : Sets) (h : SingleShift) (s : Saved) (q : Parser) →
      restored_from (core_from c.rows u c.margins t (with_origin c.modes o) r p g h s q) (saved_of c)
      ≡ core_from c.rows c.cursor c.margins t c.modes c.rendition c.protected c.sets c.shift s q
  saved-comes-back u t o r p g h s q =
      rw (row_kept c.modes.origin refl, and-implied c.cursor.wrap c.modes.autowrap w.wrap.mode) refl

  -- Restoring what was just saved changes nothing.
  pub save-restores : restore_cursor (save_cursor c).core ≡ save_cursor c
  save-restores =
      ap unedited
      (saved-comes-back c.cursor c.tabs c.modes.origin c.rendition c.protected c.sets c.shift (saved_of c) c.parser)

-- A second ESC 8 does what the first did.
pub restore-repeats : (c : Core) → restore_cursor (restore_cursor c).core ≡ restore_cursor c
restore-repeats c = refl

-- ---- on the line, where a view is whole too (`view-whole` of SoundDisplays.antt), so that the laws above hold of it

-- What ESC 7 saves there is what the line's next view, over whatever core, has saved: row 1 and origin off are no loss.
pub line-saves : (c d : Core) (l : StatusLine) → (line_view d (line_behind l (save_cursor (line_view c l)).core)).saved ≡ saved_of (line_view c l)
unfolding line_view
line-saves c d l = refl

-- What the line has saved comes through a view unchanged.
pub line-keeps-saved : (s : LineSaved) → saved_line (line_saved s) ≡ s
line-keeps-saved s = refl
