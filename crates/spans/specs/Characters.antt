-- Characters that are put one after the other in a row.
use Rattle.std.specs.Prelude.{◌≡◌, ℕ, ◌+◌, Bool, true, false, cond, not, ◌&&◌, List, nat_le}
use Rattle.parser.specs.Phases.{is_ground}
use Rattle.device.specs.declared.charsets.SingleShift.{SingleShift}
use Rattle.device.specs.declared.charsets.SingleShift.TheVariants.{NoShift, Ss2, Ss3}
use Rattle.device.specs.declared.cursor.Cursor.{Cursor}
use Rattle.core_state.specs.declared.Core.{Core}
use Rattle.steps.specs.Ready.{Paged}

abbrev pub is_unshifted : SingleShift → Bool
is_unshifted NoShift = true
is_unshifted Ss2 = false
is_unshifted Ss3 = false

-- where a character is put at once: in ground, no shift pending, no wrap due
abbrev pub prints_directly : Core → Bool
prints_directly c = is_ground c.parser.phase && (is_unshifted c.shift && not c.cursor.wrap)

-- there, on a page of the core's size
pub record Direct (c : Core) (p : List ℕ) : Type 0 where
  pub direct : prints_directly c ≡ true
  pub paged : Paged c p

-- after k characters from a column on, in a row with room for them: wrap due in the last column, if autowrap is on
abbrev pub advance_by : Cursor → ℕ → Bool → Cursor
advance_by u k on =
    cond (nat_le (u.column + k) 80)
    (record { row = u.row; column = u.column + k; wrap = false })
    (record { row = u.row; column = 80; wrap = on })
