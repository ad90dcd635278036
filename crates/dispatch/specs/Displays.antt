-- An action on page or status line (SCOPE 5.58 to 5.80, 7.9): which of them it acts on, and what it leaves of both.
use Rattle.std.specs.Prelude.{ℕ, Bool, false, cond, not, ◌&&◌, ◌||◌, List, ◌==◌, nat_le}
use Rattle.cells.specs.Cells.{blank}
use Rattle.page.specs.declared.Edit.{Edit}
use Rattle.page.specs.declared.Edit.TheVariants.{Keep, FillRange}
use Rattle.parser.specs.declared.parser.Action.{Action}
use Rattle.parser.specs.declared.parser.Action.TheVariants.{Nothing, Character, Substitute, Control, C1Control, EscapeSequence, ControlSequence}
use Rattle.parser.specs.Params.{param}
use Rattle.parser.specs.Parser.{decode}
use Rattle.parser.specs.Families.{is_soft_reset, is_dollar}
use Rattle.core_state.specs.declared.Core.{Core}
use Rattle.core_state.specs.declared.StatusLine.{StatusLine}
use Rattle.core_state.specs.declared.Displays.{Displays}
use Rattle.core_state.specs.Effects.{with_parser}
use Rattle.core_state.specs.StatusLine.{line_view, page_behind, line_behind, line_beside, fresh_line}
use Rattle.dispatch.specs.Decide.{executed, sends}

-- ---- choosing: both sequences leave every cell, cursor and wrap due

-- $ ~ (DECSSDT): 0 no line, which goes back to the page, 1 and 2 a line
abbrev pub type_selected : ℕ → StatusLine → StatusLine
type_selected n l =
    let there = not (n == 0) in
    cond (nat_le n 2)
    (record { present = there; active = there && l.active; column = l.column; wrap = l.wrap; saved = l.saved })
    l

-- $ } (DECSASD): 0 the page, 1 the line if there is one
abbrev pub display_selected : ℕ → StatusLine → StatusLine
display_selected n l =
    cond (n == 0 || (n == 1 && l.present))
    (record { present = l.present; active = (n == 1); column = l.column; wrap = l.wrap; saved = l.saved })
    l

abbrev pub status_selected : ℕ → ℕ → StatusLine → StatusLine
status_selected last n l = cond (last == 0x7E) (type_selected n l) (cond (last == 0x7D) (display_selected n l) l)

-- ---- both resets go back to the page

-- ! p (DECSTR) renews what is saved
abbrev pub line_renewed : StatusLine → StatusLine
line_renewed l = record { present = l.present; active = false; column = l.column; wrap = l.wrap; saved = fresh_line.saved }

-- ESC c (RIS)
abbrev pub is_full_reset : ℕ → ℕ → Bool
is_full_reset first last = first == 0 && last == 0x63

abbrev pub resets_all : Action → Bool
resets_all Nothing = false
resets_all (Character b) = false
resets_all Substitute = false
resets_all (Control b) = false
resets_all (C1Control b) = false
resets_all (EscapeSequence first second last) = is_full_reset first last
resets_all (ControlSequence f) = false

-- either
abbrev pub leaves_line : Action → Bool
leaves_line Nothing = false
leaves_line (Character b) = false
leaves_line Substitute = false
leaves_line (Control b) = false
leaves_line (C1Control b) = false
leaves_line (EscapeSequence first second last) = is_full_reset first last
leaves_line (ControlSequence f) = is_soft_reset f.mark f.first f.second f.last

abbrev pub escape_told : ℕ → ℕ → StatusLine → StatusLine
escape_told first last l = cond (is_full_reset first last) fresh_line l

abbrev pub sequence_told : ℕ → ℕ → ℕ → ℕ → ℕ → StatusLine → StatusLine
sequence_told n mark first second last l =
    cond (is_soft_reset mark first second last) (line_renewed l)
    (cond (is_dollar mark first second) (status_selected last n l) l)

-- what an action, with its first parameter, does to the line beside what it does on a display
abbrev pub line_told : Action → ℕ → StatusLine → StatusLine
line_told Nothing n l = l
line_told (Character b) n l = l
line_told Substitute n l = l
line_told (Control b) n l = l
line_told (C1Control b) n l = l
line_told (EscapeSequence first second last) n l = escape_told first last l
line_told (ControlSequence f) n l = sequence_told n f.mark f.first f.second f.last l

-- whether it does anything to it
abbrev pub tells_line : Action → Bool
tells_line Nothing = false
tells_line (Character b) = false
tells_line Substitute = false
tells_line (Control b) = false
tells_line (C1Control b) = false
tells_line (EscapeSequence first second last) = is_full_reset first last
tells_line (ControlSequence f) =
    is_soft_reset f.mark f.first f.second f.last || (is_dollar f.mark f.first f.second && (f.last == 0x7D || f.last == 0x7E))

-- ---- an action

-- at most two edits, one a step; `Keep` where a step leaves the cells
pub record Edits : Type 0 where
  pub first : Edit
  pub second : Edit

abbrev pub no_edits : Edits
no_edits = record { first = Keep; second = Keep }

-- what is decided next by, and the edits of each step on the page and on the line
pub record Carried : Type 0 where
  pub displays : Displays
  pub page : Edits
  pub line : Edits

-- while the line is active an action is one on it, but for the resets
abbrev pub acts_on_line : StatusLine → Action → Bool
acts_on_line l a = l.active && not (leaves_line a)

abbrev pub on_line : Core → StatusLine → Action → Carried
on_line c l a =
    let x = executed (line_view c l) a in
    record {
      displays = record { core = page_behind c x.core; line = line_told a (param c.parser.params 0) (line_behind l x.core) };
      page = no_edits;
      line = record { first = x.first; second = x.second };
    }

-- ESC c blanks the line with the page
abbrev pub line_edits : Action → Edits
line_edits a = record { first = cond (resets_all a) (FillRange 0 80 blank) Keep; second = Keep }

abbrev pub on_page : Core → StatusLine → Action → Carried
on_page c l a =
    let x = executed c a in
    record {
      displays = record { core = x.core; line = line_told a (param c.parser.params 0) (line_beside l x.core.modes.autowrap) };
      page = record { first = x.first; second = x.second };
      line = line_edits a;
    }

unfoldable pub carried : Core → StatusLine → Action → Carried
carried c l a = cond (acts_on_line l a) (on_line c l a) (on_page c l a)

-- ---- a byte

-- the parser takes the byte first; its parameters are those of the action
unfoldable pub carried_out : Displays → ℕ → Carried
carried_out k b =
    let d = decode k.core.parser b in
    carried (with_parser k.core d.parser) k.line d.action

-- the display that bytes act on
abbrev pub active : Displays → Core
active k = cond k.line.active (line_view k.core k.line) k.core

-- the bytes that a byte sends, of the display that it acts on
unfoldable pub sends_of : Displays → ℕ → List ℕ
sends_of k b = sends (active k) b
