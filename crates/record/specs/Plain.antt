-- A record that is plainly that of a whole state: what the code tests of it as it lies.
use Rattle.std.specs.Prelude.{ℕ, ◌^◌, Bool, true, ◌&&◌, ◌||◌, List, [], ◌∷◌, ◌==◌, nat_le, nat_lt}
use Rattle.ground.specs.Tests.{between}
use Rattle.core_state.specs.Whole.{sized}
use Rattle.parser.specs.Params.{none_above}
use Rattle.record.specs.declared.ParserRecord.{ParserRecord}
use Rattle.record.specs.declared.RenditionRecord.{RenditionRecord}
use Rattle.record.specs.declared.SetsRecord.{SetsRecord}
use Rattle.record.specs.declared.Terminal.{Terminal}
use Rattle.record.specs.Record.{rendition_named, sets_named}

-- tests in a row, as a chain of `&` has them
abbrev pub along : Bool → List Bool → Bool
along a [] = a
along a (b ∷ bs) = along (a && b) bs

abbrev pub every : List Bool → Bool
every [] = true
every (a ∷ bs) = along a bs

abbrev pub plain_signs : RenditionRecord → SetsRecord → Bool
plain_signs r s = rendition_named r && sets_named s

-- a phase without intermediates
abbrev pub plain_phase : ℕ → Bool
plain_phase n = n == 0 || n == 1 || n == 5 || n == 6 || n == 10

-- no subparameters
abbrev pub plain_mark : ℕ → Bool
plain_mark m = m == 0 || between 0x3C m 0x3F

abbrev pub plain_parser : ParserRecord → Bool
plain_parser p = nat_le p.separators 16 && plain_mark p.mark && plain_phase p.phase

unfoldable pub place_tests : Terminal → List Bool
place_tests t =
    sized t.rows
    ∷ between 1 t.cursor.row t.rows
    ∷ between 1 t.saved.cursor.row t.rows
    ∷ nat_le 1 t.top
    ∷ nat_lt t.top t.bottom
    ∷ nat_le t.bottom t.rows
    ∷ between 1 t.cursor.column 80
    ∷ between 1 t.saved.cursor.column 80
    ∷ between 1 t.status.column 80
    ∷ between 1 t.status.saved.column 80
    ∷ []

-- no wrap due, here or saved, origin off, the page active; the others are flags and shifts
unfoldable pub flag_tests : Terminal → List Bool
flag_tests t =
    (t.cursor.wrap == 0)
    ∷ (t.modes.origin == 0)
    ∷ (t.saved.cursor.wrap == 0)
    ∷ (t.status.wrap == 0)
    ∷ (t.status.saved.wrap == 0)
    ∷ (t.status.active == 0)
    ∷ nat_lt t.modes.insert 2
    ∷ nat_lt t.modes.newline 2
    ∷ nat_lt t.modes.autowrap 2
    ∷ nat_lt t.modes.shown 2
    ∷ nat_lt t.modes.eightbit 2
    ∷ nat_lt t.modes.rectangle 2
    ∷ nat_lt t.protected 2
    ∷ nat_lt t.saved.protected 2
    ∷ nat_lt t.status.saved.protected 2
    ∷ nat_lt t.saved.origin 2
    ∷ nat_lt t.status.present 2
    ∷ nat_lt t.flag 2
    ∷ nat_lt t.shift 3
    ∷ nat_lt t.saved.shift 3
    ∷ nat_lt t.status.saved.shift 3
    ∷ []

abbrev pub plain_look : Terminal → Bool
plain_look t =
    plain_signs t.rendition t.sets && plain_signs t.saved.rendition t.saved.sets
    && plain_signs t.status.saved.rendition t.status.saved.sets

unfoldable pub plain : Terminal → Bool
plain t =
    none_above 9999 t.values && (plain_parser t.parser && every (place_tests t)) && every (flag_tests t) && plain_look t && nat_lt t.changed (2 ^ t.rows)
