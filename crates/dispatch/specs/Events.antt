-- Bytes that more is done with than a step on one display: they may draw a reply, or tell the status line something. Which
-- they are shows by the byte and the phase, before it is decoded.
use Rattle.std.specs.Prelude.{ℕ, Bool, false, cond, not, ◌&&◌, ◌||◌, ◌==◌}
use Rattle.parser.specs.declared.phases.Phase.{Phase}
use Rattle.parser.specs.declared.parser.Parser.{Parser}
use Rattle.parser.specs.declared.parser.Action.{Action}
use Rattle.parser.specs.declared.parser.Action.TheVariants.{Nothing, Character, Substitute, Control, C1Control, EscapeSequence, ControlSequence}
use Rattle.parser.specs.Phases.{is_ground}
use Rattle.parser.specs.Parser.{lowered, decode}

-- the finals Z (DECID), c (DA, RIS), n (DSR), p (DECSTR), } (DECSASD), ~ (DECSSDT)
abbrev pub is_notable : ℕ → Bool
is_notable x = x == 0x5A || (x == 0x63 || (x == 0x6E || (x == 0x70 || (x == 0x7D || x == 0x7E))))

-- one of them in a sequence, also as the byte 80 higher, and DECID as one byte
abbrev pub interrupts : Phase → ℕ → Bool
interrupts p b = b == 0x9A || (is_notable (lowered b) && not (is_ground p))

-- the actions that may be such
abbrev pub is_eventful : Action → Bool
is_eventful Nothing = false
is_eventful (Character b) = false
is_eventful Substitute = false
is_eventful (Control b) = false
is_eventful (C1Control b) = b == 0x9A
is_eventful (EscapeSequence first second last) = is_notable last
is_eventful (ControlSequence f) = is_notable f.last

-- what such a byte asks for, and nothing of any other
abbrev pub heeded : Parser → ℕ → Action
heeded s b = cond (interrupts s.phase b) (decode s b).action Nothing
