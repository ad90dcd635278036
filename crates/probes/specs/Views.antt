-- The command V: what it writes of a state. A flag is 1 or 0.
use Rattle.std.specs.Prelude.{ℕ, List, [], ◌∷◌, ◌++◌}
use Rattle.cells.specs.Cells.{bit, set_number}
use Rattle.cells.specs.declared.Rendition.{Rendition}
use Rattle.device.specs.Charsets.{register_number, shift_number}
use Rattle.device.specs.declared.charsets.Sets.{Sets}
use Rattle.device.specs.declared.cursor.Cursor.{Cursor}
use Rattle.core_state.specs.declared.Core.{Core}
use Rattle.core_state.specs.declared.Modes.{Modes}
use Rattle.core_state.specs.declared.Saved.{Saved}
use Rattle.core_state.specs.declared.LineSaved.{LineSaved}
use Rattle.core_state.specs.declared.StatusLine.{StatusLine}
use Rattle.core_state.specs.declared.Displays.{Displays}

abbrev pub cursor_bytes : Cursor → List ℕ
cursor_bytes u = u.row ∷ u.column ∷ bit u.wrap ∷ []

abbrev pub mode_bytes : Modes → List ℕ
mode_bytes m =
    bit m.insert ∷ bit m.newline ∷ bit m.origin ∷ bit m.autowrap ∷ bit m.shown ∷ bit m.eightbit ∷ bit m.rectangle ∷ []

abbrev pub rendition_bytes : Rendition → List ℕ
rendition_bytes r = bit r.bold ∷ bit r.underline ∷ bit r.blink ∷ bit r.reverse ∷ []

abbrev pub set_bytes : Sets → List ℕ
set_bytes s = set_number s.g0 ∷ set_number s.g1 ∷ set_number s.g2 ∷ set_number s.g3 ∷ register_number s.gl ∷ register_number s.gr ∷ []

abbrev pub saved_bytes : Saved → List ℕ
saved_bytes s =
    cursor_bytes s.cursor ++ rendition_bytes s.rendition ++ (bit s.origin ∷ []) ++ set_bytes s.sets
    ++ (bit s.protected ∷ []) ++ (shift_number s.shift ∷ [])

-- R, the cursor, T, B, the modes
abbrev pub place_bytes : Core → List ℕ
place_bytes c = (c.rows ∷ []) ++ cursor_bytes c.cursor ++ (c.margins.top ∷ c.margins.bottom ∷ []) ++ mode_bytes c.modes

-- the rendition, protection, the sets, the pending shift
abbrev pub writing_bytes : Core → List ℕ
writing_bytes c = rendition_bytes c.rendition ++ (bit c.protected ∷ []) ++ set_bytes c.sets ++ (shift_number c.shift ∷ [])

-- these, what is saved, and the tabs
abbrev pub core_bytes : Core → List ℕ
core_bytes c = place_bytes c ++ writing_bytes c ++ saved_bytes c.saved ++ c.tabs.flags

-- of the line: whether there is one and whether it is active, its cursor, and the cursor that is saved of it
abbrev pub line_place_bytes : StatusLine → LineSaved → List ℕ
line_place_bytes l s = bit l.present ∷ bit l.active ∷ l.column ∷ bit l.wrap ∷ s.column ∷ bit s.wrap ∷ []

-- these, and what else is saved of it
abbrev pub line_bytes : StatusLine → List ℕ
line_bytes l =
    line_place_bytes l l.saved ++ rendition_bytes l.saved.rendition ++ set_bytes l.saved.sets
    ++ (bit l.saved.protected ∷ []) ++ (shift_number l.saved.shift ∷ [])

abbrev pub view_bytes : Displays → List ℕ
view_bytes k = core_bytes k.core ++ line_bytes k.line
