-- Bytes that move the cursor and make one edit at most: which they are, and what is left of a decision as cursor and edit alone.
use Rattle.std.specs.Prelude.{ℕ, max, Bool, false, cond, not, ◌&&◌, ◌||◌, List, [], ◌∷◌, ◌==◌, nat_lt}
use Rattle.ground.specs.Tests.{between}
use Rattle.page.specs.declared.Edit.TheVariants.{Keep}
use Rattle.parser.specs.declared.parser.Action.{Action}
use Rattle.parser.specs.declared.parser.Action.TheVariants.{Control, C1Control}
use Rattle.parser.specs.Params.{member}
use Rattle.device.specs.Cursor.{no_wrap}
use Rattle.core_state.specs.declared.Core.{Core}
use Rattle.core_state.specs.declared.Decision.{Decision}
use Rattle.core_state.specs.StatusLine.{is_line}
use Rattle.csi.specs.Sequences.{cursor_up, cursor_down, cursor_right, cursor_left, cursor_position, in_page, in_row, to_blank, erase_characters}
use Rattle.csi.specs.Sequences.{insert_lines, delete_lines, insert_characters, delete_characters}
use Rattle.dispatch.specs.declared.touches.Touch.{Touch}
use Rattle.dispatch.specs.Heard.{inside_margins}

-- nothing: wrap due stays
abbrev pub untouched : Core → Touch
untouched c = record { cursor = c.cursor; edit = Keep }

-- cursor and edit of a decision, with no wrap due
abbrev pub narrowed : Decision → Touch
narrowed d = record { cursor = no_wrap d.core.cursor; edit = d.first }

-- ---- control sequences, with no mark and no intermediate

-- ICH, CUU, CUD, CUF, CUB, CUP, ED, EL, IL, DL, DCH, ECH, HVP
abbrev pub touch_finals : List ℕ
touch_finals = 0x40 ∷ 0x41 ∷ 0x42 ∷ 0x43 ∷ 0x44 ∷ 0x48 ∷ 0x4A ∷ 0x4B ∷ 0x4C ∷ 0x4D ∷ 0x50 ∷ 0x58 ∷ 0x66 ∷ []

abbrev pub is_touch : ℕ → Bool
is_touch last = member last touch_finals

-- what is ignored of them, by the first parameter
abbrev pub touch_ignored : Core → ℕ → ℕ → Bool
touch_ignored c first last =
    cond (member last (0x4A ∷ 0x4B ∷ [])) (nat_lt 2 first)
    (cond (member last (0x40 ∷ 0x50 ∷ [])) (not (inside_margins c))
    (cond (member last (0x4C ∷ 0x4D ∷ [])) (is_line c || not (inside_margins c)) false))

-- what the others do, by their first two parameters
abbrev pub touch_decided : Core → ℕ → ℕ → ℕ → Decision
touch_decided c first second last =
    cond (last == 0x40) (insert_characters c (max 1 first))
    (cond (last == 0x41) (cursor_up c (max 1 first))
    (cond (last == 0x42) (cursor_down c (max 1 first))
    (cond (last == 0x43) (cursor_right c (max 1 first))
    (cond (last == 0x44) (cursor_left c (max 1 first))
    (cond (last == 0x4A) (in_page c first to_blank)
    (cond (last == 0x4B) (in_row c first to_blank)
    (cond (last == 0x4C) (insert_lines c (max 1 first))
    (cond (last == 0x4D) (delete_lines c (max 1 first))
    (cond (last == 0x50) (delete_characters c (max 1 first))
    (cond (last == 0x58) (erase_characters c (max 1 first))
    (cursor_position c first second)))))))))))

-- ---- controls

-- those that shift, set a tab, reply, or go to another phase: SO, SI, CAN, SUB, ESC; HTS, SS2, SS3, DCS, SOS, DECID, CSI, OSC, PM, APC
abbrev pub other_controls : List ℕ
other_controls =
    0x0E ∷ 0x0F ∷ 0x18 ∷ 0x1A ∷ 0x1B ∷ 0x88 ∷ 0x8E ∷ 0x8F ∷ 0x90 ∷ 0x98 ∷ 0x9A ∷ 0x9B ∷ 0x9D ∷ 0x9E ∷ 0x9F ∷ []

-- below 20 and 80 to 9F, but for these: they move the cursor, or do nothing
abbrev pub is_direct : ℕ → Bool
is_direct b = (nat_lt b 0x20 || between 0x80 b 0x9F) && not (member b other_controls)

abbrev pub control_action : ℕ → Action
control_action b = cond (nat_lt b 0x80) (Control b) (C1Control b)
