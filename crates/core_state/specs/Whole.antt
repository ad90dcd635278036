-- A whole state (SCOPE 1.9 to 1.17; 1.18, on the changed rows, is the terminal's) and a whole line (1.28 to 1.30): a test and a fact for each clause.
use Rattle.std.specs.Prelude.{◌≡◌, ℕ, ◌≤◌, Bool, true, ◌&&◌, ◌||◌, List, [], ◌∷◌, ◌==◌, nat_le, nat_lt}
use Rattle.parser.specs.declared.parser.Parser.{Parser}
use Rattle.device.specs.declared.cursor.Cursor.{Cursor}
use Rattle.core_state.specs.declared.Core.{Core}
use Rattle.core_state.specs.declared.Margins.{Margins}
use Rattle.core_state.specs.declared.StatusLine.{StatusLine}
use Rattle.core_state.specs.declared.Displays.{Displays}
use Rattle.core_state.specs.Bounds.{OnPage, Bounded}
use Rattle.ground.specs.Tests.{between}
use Rattle.parser.specs.WholeParser.{parser_tests, WholeParser}
use Rattle.ground.specs.Tests.{implies, all}

-- R is 24, 36 or 48
abbrev pub sized : ℕ → Bool
sized r = (r == 24 || r == 36) || r == 48

abbrev pub core_tests : Core → List Bool
core_tests c =
    sized c.rows
    ∷ between 1 c.cursor.row c.rows
    ∷ between 1 c.cursor.column 80
    ∷ (nat_le 1 c.margins.top && nat_lt c.margins.top c.margins.bottom && nat_le c.margins.bottom c.rows)
    ∷ implies c.cursor.wrap (c.cursor.column == 80 && c.modes.autowrap)
    ∷ implies c.modes.origin (between c.margins.top c.cursor.row c.margins.bottom)
    ∷ between 1 c.saved.cursor.row c.rows
    ∷ between 1 c.saved.cursor.column 80
    ∷ implies c.saved.cursor.wrap (c.saved.cursor.column == 80)
    ∷ []

unfoldable pub whole_core : Core → Bool
whole_core c = all (core_tests c) && all (parser_tests c.parser)

-- the same of the line's cursors, and a type when it is active
abbrev pub line_tests : StatusLine → Bool → List Bool
line_tests l autowrap =
    between 1 l.column 80
    ∷ implies l.wrap (l.column == 80 && autowrap)
    ∷ between 1 l.saved.column 80
    ∷ implies l.saved.wrap (l.saved.column == 80)
    ∷ implies l.active l.present
    ∷ []

unfoldable pub whole_displays : Displays → Bool
whole_displays k = whole_core k.core && all (line_tests k.line k.core.modes.autowrap)

-- ---- the same but for the size, a fact for each clause: on a page of any number of rows

-- wrap due only in column 80 with autowrap on
pub record WrapHeld (wrap : Bool) (at : ℕ) (autowrap : Bool) : Type 0 where
  pub column : wrap ≡ true → at ≡ 80
  pub mode : wrap ≡ true → autowrap ≡ true

-- with origin on, the row is between the margins
pub record OriginHeld (origin : Bool) (m : Margins) (row : ℕ) : Type 0 where
  pub low : origin ≡ true → m.top ≤ row
  pub high : origin ≡ true → row ≤ m.bottom

pub record SavedHeld (rows : ℕ) (u : Cursor) : Type 0 where
  pub place : OnPage rows u.row u.column
  pub wrap : u.wrap ≡ true → u.column ≡ 80

-- all but wrap due: over the parts that it speaks of, so that a change of another leaves it as it is
pub record Held (rows row column : ℕ) (m : Margins) (o : Bool) (u : Cursor) (q : Parser) : Type 0 where
  pub bounds : Bounded rows row column m
  pub origin : OriginHeld o m row
  pub saved : SavedHeld rows u
  pub parser : WholeParser q

abbrev pub Parts : Core → Type 0
Parts c = Held c.rows c.cursor.row c.cursor.column c.margins c.modes.origin c.saved.cursor c.parser

abbrev pub WrapOf : Core → Type 0
WrapOf c = WrapHeld c.cursor.wrap c.cursor.column c.modes.autowrap

-- `whole_core c` is `Whole c` and `sized c.rows`
pub record Whole (c : Core) : Type 0 where
  pub parts : Parts c
  pub wrap : WrapOf c

-- ---- the line

pub record WholeLine (l : StatusLine) (autowrap : Bool) : Type 0 where
  pub low : 1 ≤ l.column
  pub high : l.column ≤ 80
  pub wrap : WrapHeld l.wrap l.column autowrap
  pub saved_low : 1 ≤ l.saved.column
  pub saved-high : l.saved.column ≤ 80
  pub saved-wrap : l.saved.wrap ≡ true → l.saved.column ≡ 80
  pub typed : l.active ≡ true → l.present ≡ true

-- `whole_displays k` is `Whole` of its core, one of the three sizes, and this of its line
pub record WholeDisplays (k : Displays) : Type 0 where
  pub core : Whole k.core
  pub line : WholeLine k.line k.core.modes.autowrap
