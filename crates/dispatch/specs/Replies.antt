-- Replies (SCOPE 7): which one an action draws, if it is heard.
use Rattle.std.specs.Prelude.{Option, None, Some, ℕ, ◌+◌, ◌-◌, cond, ◌&&◌, ◌==◌}
use Rattle.parser.specs.declared.params.Params.{Params}
use Rattle.parser.specs.declared.parser.Action.{Action}
use Rattle.parser.specs.declared.parser.Action.TheVariants.{Nothing, Character, Substitute, Control, C1Control, EscapeSequence, ControlSequence}
use Rattle.core_state.specs.declared.Core.{Core}
use Rattle.device.specs.declared.sending.Reply.{Reply}
use Rattle.device.specs.declared.sending.Reply.TheVariants.{PrimaryAttributes, SecondaryAttributes, Status, Position, ExtendedPosition, Printer}
use Rattle.parser.specs.Params.{param}
use Rattle.parser.specs.Families.{is_plain, is_private}
use Rattle.core_state.specs.Geometry.{first_row}
use Rattle.dispatch.specs.Heard.{is_secondary, heard}

-- the cursor's row, counted from T with origin on
abbrev pub reported_row : Core → ℕ
reported_row c = c.cursor.row - first_row c + 1

-- c (DA), 5 n (DSR), 6 n (CPR)
abbrev pub plain_reply : Core → Params → ℕ → Option Reply
plain_reply c q last =
    cond (last == 0x63 && param q 0 == 0) (Some PrimaryAttributes)
    (cond (last == 0x6E && param q 0 == 5) (Some Status)
    (cond (last == 0x6E && param q 0 == 6) (Some (Position (reported_row c) c.cursor.column)) None))

-- ?6 n (DECXCPR), ?15 n (the printer's DSR)
abbrev pub private_reply : Core → Params → ℕ → Option Reply
private_reply c q last =
    cond (last == 0x6E && param q 0 == 6) (Some (ExtendedPosition (reported_row c) c.cursor.column))
    (cond (last == 0x6E && param q 0 == 15) (Some Printer) None)

-- c, 5 n, 6 n; ?6 n, ?15 n; > c (secondary DA)
abbrev pub sequence_reply : Core → Params → ℕ → ℕ → ℕ → ℕ → Option Reply
sequence_reply c q mark first second last =
    cond (is_plain mark first second) (plain_reply c q last)
    (cond (is_private mark first second) (private_reply c q last)
    (cond (is_secondary mark first second last && param q 0 == 0) (Some SecondaryAttributes) None))

-- and DECID
abbrev pub reply : Core → Action → Option Reply
reply c Nothing = None
reply c (Character b) = None
reply c Substitute = None
reply c (Control b) = None
reply c (C1Control b) = cond (b == 0x9A) (Some PrimaryAttributes) None
reply c (EscapeSequence first second last) = None
reply c (ControlSequence f) = sequence_reply c c.parser.params f.mark f.first f.second f.last

unfoldable pub reply_to : Core → Action → Option Reply
reply_to c a = reply c (heard c a)
