-- One byte: the next core, at most two edits, and the reply.
use Rattle.std.specs.Prelude.{ℕ, List}
use Rattle.parser.specs.declared.parser.Action.{Action}
use Rattle.parser.specs.declared.parser.Action.TheVariants.{Nothing, Character, Substitute, Control, C1Control, EscapeSequence, ControlSequence}
use Rattle.core_state.specs.declared.Core.{Core}
use Rattle.core_state.specs.declared.Decision.{Decision}
use Rattle.parser.specs.Parser.{decode}
use Rattle.vt.specs.Printing.{printed, substituted}
use Rattle.vt.specs.Controls.{controlled, c1_controlled}
use Rattle.vt.specs.Escapes.{escaped}
use Rattle.csi.specs.Sequences.{sequenced}
use Rattle.dispatch.specs.Heard.{heard}
use Rattle.dispatch.specs.WrapDue.{clears_wrap, with_wrap_policy}
use Rattle.dispatch.specs.Replies.{reply_to}
use Rattle.device.specs.ReplyBytes.{reply_bytes}
use Rattle.core_state.specs.Effects.{with_parser, unedited}

-- what an action does, but for wrap due
abbrev pub effect : Core → Action → Decision
effect c Nothing = unedited c
effect c (Character b) = printed c b
effect c Substitute = substituted c
effect c (Control b) = controlled c b
effect c (C1Control b) = c1_controlled c b
effect c (EscapeSequence first second last) = escaped c first second last
effect c (ControlSequence f) = sequenced c c.parser.params f.mark f.first f.second f.last

-- and with it, of what is heard
unfoldable pub executed : Core → Action → Decision
executed c a = with_wrap_policy (clears_wrap c a) (effect c (heard c a))

-- the parser takes the byte first; its parameters are those of the action
unfoldable pub decided : Core → ℕ → Decision
decided c b =
    let d = decode c.parser b in
    executed (with_parser c d.parser) d.action

-- the bytes that a byte sends, which depend on no page
unfoldable pub sends : Core → ℕ → List ℕ
sends c b = reply_bytes c.modes.eightbit (reply_to c (decode c.parser b).action)
