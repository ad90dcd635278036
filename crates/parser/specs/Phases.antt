-- The parser's phases: their numbers, and what is true of one or two of them.
use Rattle.std.specs.Prelude.{Bool, cond, ◌||◌, ℕ, eqb}
use Rattle.parser.specs.declared.phases.Phase.{Phase}
use Rattle.parser.specs.declared.phases.Phase.TheVariants.{Ground, Escape, EscapeOne, EscapeTwo, EscapeIgnore, CsiEntry, CsiParam, CsiOne, CsiTwo}
use Rattle.parser.specs.declared.phases.Phase.TheVariants.{CsiIgnore, StringText}

abbrev pub phase_number : Phase → ℕ
phase_number Ground = 0
phase_number Escape = 1
phase_number EscapeOne = 2
phase_number EscapeTwo = 3
phase_number EscapeIgnore = 4
phase_number CsiEntry = 5
phase_number CsiParam = 6
phase_number CsiOne = 7
phase_number CsiTwo = 8
phase_number CsiIgnore = 9
phase_number StringText = 10

abbrev pub phase_of : ℕ → Phase
phase_of n =
    cond (eqb n 0) Ground
    (cond (eqb n 1) Escape
    (cond (eqb n 2) EscapeOne
    (cond (eqb n 3) EscapeTwo
    (cond (eqb n 4) EscapeIgnore
    (cond (eqb n 5) CsiEntry
    (cond (eqb n 6) CsiParam
    (cond (eqb n 7) CsiOne
    (cond (eqb n 8) CsiTwo
    (cond (eqb n 9) CsiIgnore StringText)))))))))

-- two phases are the same by their numbers, so that a definition names only the phases that it tells from the others
abbrev pub is_phase : Phase → Phase → Bool
is_phase q p = eqb (phase_number p) (phase_number q)

abbrev pub is_ground : Phase → Bool
is_ground p = is_phase Ground p

abbrev pub is_string : Phase → Bool
is_string p = is_phase StringText p

-- the phases that take parameters
abbrev pub takes_parameters : Phase → Bool
takes_parameters p = is_phase CsiEntry p || is_phase CsiParam p

-- how many intermediates were collected
abbrev pub intermediates : Phase → ℕ
intermediates p =
    cond (is_phase EscapeOne p || is_phase CsiOne p) 1
    (cond (is_phase EscapeTwo p || is_phase CsiTwo p) 2 0)
