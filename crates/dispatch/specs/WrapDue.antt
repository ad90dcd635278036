-- Wrap due (SCOPE 6): the one policy, over what is heard. It is a list of what keeps wrap due; all others clear
-- it, even where they change nothing else. What is ignored or not listed, what only moves the parser, and CAN are nothing, and keep it.
use Rattle.std.specs.Prelude.{ℕ, Bool, true, false, cond, not, ◌&&◌, ◌||◌, List, [], ◌∷◌, ◌==◌}
use Rattle.parser.specs.declared.params.Params.{Params}
use Rattle.parser.specs.declared.parser.Action.{Action}
use Rattle.parser.specs.declared.parser.Action.TheVariants.{Nothing, Character, Substitute, Control, C1Control, EscapeSequence, ControlSequence}
use Rattle.core_state.specs.declared.Core.{Core}
use Rattle.core_state.specs.declared.Decision.{Decision}
use Rattle.parser.specs.Params.{param_list, member}
use Rattle.parser.specs.Families.{is_plain, is_private, is_protection, is_dollar, is_extent}
use Rattle.device.specs.Cursor.{no_wrap}
use Rattle.core_state.specs.StatusLine.{is_line}
use Rattle.core_state.specs.Effects.{with_cursor}
use Rattle.dispatch.specs.Heard.{is_secondary, heard}

-- SO, SI
abbrev pub keeping_controls : List ℕ
keeping_controls = 0x0E ∷ 0x0F ∷ []

-- HTS, SS2, SS3, DECID
abbrev pub keeping_c1 : List ℕ
keeping_c1 = 0x88 ∷ 0x8E ∷ 0x8F ∷ 0x9A ∷ []

-- ESC 7; n, o, |, }, ~; ESC 8 restores it by itself
abbrev pub keeping_escapes : List ℕ
keeping_escapes = 0x37 ∷ 0x38 ∷ 0x6E ∷ 0x6F ∷ 0x7C ∷ 0x7D ∷ 0x7E ∷ []

-- ESC sp; the designations, ( ) * + - . /
abbrev pub keeping_intermediates : List ℕ
keeping_intermediates = 0x20 ∷ 0x28 ∷ 0x29 ∷ 0x2A ∷ 0x2B ∷ 0x2D ∷ 0x2E ∷ 0x2F ∷ []

abbrev pub escape_keeps : ℕ → ℕ → Bool
escape_keeps first last = cond (first == 0) (member last keeping_escapes) (member first keeping_intermediates)

-- CSI g, h, l, m, n, c
abbrev pub keeping_finals : List ℕ
keeping_finals = 0x67 ∷ 0x68 ∷ 0x6C ∷ 0x6D ∷ 0x6E ∷ 0x63 ∷ []

-- ?6, which the status line ignores
abbrev pub sets_origin : Core → Params → Bool
sets_origin c q = not (is_line c) && member 6 (param_list q)

-- with ? too; but ?6 and turning autowrap off clear it
abbrev pub private_keeps : Core → Params → ℕ → Bool
private_keeps c q last =
    cond (last == 0x68) (not (sets_origin c q))
    (cond (last == 0x6C) (not (sets_origin c q || member 7 (param_list q)))
    (member last keeping_finals))

-- besides CSI > c, CSI " q, those on rectangles and of the status line, CSI * x
abbrev pub other_keeps : ℕ → ℕ → ℕ → ℕ → Bool
other_keeps mark first second last =
    (is_secondary mark first second last || is_protection mark first second last) || (is_dollar mark first second || is_extent mark first second last)

abbrev pub sequence_keeps : Core → Params → ℕ → ℕ → ℕ → ℕ → Bool
sequence_keeps c q mark first second last =
    cond (is_plain mark first second) (member last keeping_finals)
    (cond (is_private mark first second) (private_keeps c q last)
    (other_keeps mark first second last))

-- printing sets it by itself
abbrev pub keeps_wrap : Core → Action → Bool
keeps_wrap c Nothing = true
keeps_wrap c (Character b) = true
keeps_wrap c Substitute = true
keeps_wrap c (Control b) = member b keeping_controls
keeps_wrap c (C1Control b) = member b keeping_c1
keeps_wrap c (EscapeSequence first second last) = escape_keeps first last
keeps_wrap c (ControlSequence f) = sequence_keeps c c.parser.params f.mark f.first f.second f.last

unfoldable pub clears_wrap : Core → Action → Bool
clears_wrap c a = not (keeps_wrap c (heard c a))

-- the policy is put into effect
abbrev pub with_wrap_policy : Bool → Decision → Decision
with_wrap_policy true d = record { core = with_cursor d.core (no_wrap d.core.cursor); first = d.first; second = d.second }
with_wrap_policy false d = d
