-- Escape sequences (SCOPE 5.13 to 5.22). An intermediate that is not there is 0. Wrap due is in WrapDue.antt.
use Rattle.std.specs.Prelude.{ℕ, ◌*◌, Bool, true, false, cond, ◌&&◌, ◌==◌}
use Rattle.cells.specs.declared.CharSet.{CharSet}
use Rattle.cells.specs.declared.CharSet.TheVariants.{Ascii, SpecialGraphics, Supplemental, Latin1}
use Rattle.page.specs.declared.Edit.TheVariants.{FillRange}
use Rattle.cells.specs.Cells.{plain_cell, packed, blank}
use Rattle.device.specs.declared.charsets.Register.{Register}
use Rattle.device.specs.declared.charsets.Register.TheVariants.{G0, G1, G2, G3}
use Rattle.core_state.specs.declared.Saved.{Saved}
use Rattle.core_state.specs.declared.Core.{Core}
use Rattle.core_state.specs.declared.Decision.{Decision}
use Rattle.device.specs.Charsets.{designated, with_gl, with_gr}
use Rattle.device.specs.Cursor.{place, restore}
use Rattle.core_state.specs.Fresh.{fresh_core}
use Rattle.core_state.specs.Geometry.{first_row, last_row}
use Rattle.core_state.specs.Modes.{with_origin, with_eightbit}
use Rattle.core_state.specs.Effects.{with_cursor, with_margins, with_modes, with_rendition, with_protected, with_sets, with_shift, with_saved, one_edit, unedited}

-- ---- ESC 7 and ESC 8 (DECSC, DECRC)

abbrev pub saved_of : Core → Saved
saved_of c = record { cursor = c.cursor; rendition = c.rendition; origin = c.modes.origin; sets = c.sets; protected = c.protected; shift = c.shift }

abbrev pub save_cursor : Core → Decision
save_cursor c = unedited (with_saved c (saved_of c))

-- how characters are written: rendition, sets, protection and shift, their absence too
abbrev pub with_writing : Core → Saved → Core
with_writing c s = with_shift (with_protected (with_sets (with_rendition c s.rendition) s.sets) s.protected) s.shift

-- the row is held to T and B if origin is then on
abbrev pub restored_from : Core → Saved → Core
restored_from c s =
    let d = with_modes (with_writing c s) (with_origin c.modes s.origin) in
    with_cursor d (restore s.cursor (first_row d) (last_row d) d.modes.autowrap)

abbrev pub restore_cursor : Core → Decision
restore_cursor c = unedited (restored_from c c.saved)

-- ---- ESC # 8 (DECALN) and ESC c (RIS)

-- every cell plain E, margins full, cursor 1,1
abbrev pub align_screen : Core → Decision
align_screen c = one_edit (with_cursor (with_margins c (record { top = 1; bottom = c.rows })) (place 1 1)) (FillRange 0 (80 * c.rows) (packed (plain_cell 0x45)))

-- fresh, with the same R
abbrev pub reset : Core → Decision
reset c = one_edit (fresh_core c.rows) (FillRange 0 (80 * c.rows) blank)

-- ---- reply width and sets

-- ESC sp F and G (S7C1T, S8C1T)
abbrev pub select_c1_transmission : Core → Bool → Decision
select_c1_transmission c eightbit = unedited (with_modes c (with_eightbit c.modes eightbit))

abbrev pub into_gl : Core → Register → Decision
into_gl c r = unedited (with_sets c (with_gl c.sets r))

abbrev pub into_gr : Core → Register → Decision
into_gr c r = unedited (with_sets c (with_gr c.sets r))

abbrev pub designate : Core → Register → CharSet → Decision
designate c r s = unedited (with_sets c (designated c.sets r s))

-- SCS: B, 0 and %5 designate 94-sign sets
abbrev pub designate94 : Core → Register → ℕ → ℕ → Decision
designate94 c r second last =
    cond (second == 0 && last == 0x42) (designate c r Ascii)
    (cond (second == 0 && last == 0x30) (designate c r SpecialGraphics)
    (cond (second == 0x25 && last == 0x35) (designate c r Supplemental)
    (unedited c)))

-- SCS: A designates the 96-sign set
abbrev pub designate96 : Core → Register → ℕ → ℕ → Decision
designate96 c r second last = cond (second == 0 && last == 0x41) (designate c r Latin1) (unedited c)

-- ---- the sequences

-- with no intermediate: 7 (DECSC), 8 (DECRC), c (RIS), n (LS2), o (LS3), ~ (LS1R), } (LS2R), | (LS3R)
abbrev pub plain_escape : Core → ℕ → Decision
plain_escape c last =
    cond (last == 0x37) (save_cursor c)
    (cond (last == 0x38) (restore_cursor c)
    (cond (last == 0x63) (reset c)
    (cond (last == 0x6E) (into_gl c G2)
    (cond (last == 0x6F) (into_gl c G3)
    (cond (last == 0x7E) (into_gr c G1)
    (cond (last == 0x7D) (into_gr c G2)
    (cond (last == 0x7C) (into_gr c G3)
    (unedited c))))))))

-- ESC sp F (S7C1T), ESC sp G (S8C1T)
abbrev pub space_escape : Core → ℕ → ℕ → Decision
space_escape c second last =
    cond (second == 0 && last == 0x46) (select_c1_transmission c false)
    (cond (second == 0 && last == 0x47) (select_c1_transmission c true) (unedited c))

-- ESC # 8 (DECALN)
abbrev pub hash_escape : Core → ℕ → ℕ → Decision
hash_escape c second last = cond (second == 0 && last == 0x38) (align_screen c) (unedited c)

-- sp, #; ( ) * + and - . / (SCS)
unfoldable pub escaped : Core → ℕ → ℕ → ℕ → Decision
escaped c first second last =
    cond (first == 0) (plain_escape c last)
    (cond (first == 0x20) (space_escape c second last)
    (cond (first == 0x23) (hash_escape c second last)
    (cond (first == 0x28) (designate94 c G0 second last)
    (cond (first == 0x29) (designate94 c G1 second last)
    (cond (first == 0x2A) (designate94 c G2 second last)
    (cond (first == 0x2B) (designate94 c G3 second last)
    (cond (first == 0x2D) (designate96 c G1 second last)
    (cond (first == 0x2E) (designate96 c G2 second last)
    (cond (first == 0x2F) (designate96 c G3 second last)
    (unedited c))))))))))
