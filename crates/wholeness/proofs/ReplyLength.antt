-- No byte sends more than 11 bytes: the row and the column of a whole core have two digits at most.
use Rattle.std.proofs.Common.{ℕ, ◌<◌, ◌≤◌, Bool, cond, Option, length, arith}
use Rattle.parser.specs.declared.parser.Action.{Action}
use Rattle.parser.specs.declared.parser.Action.TheVariants.{Nothing, Character, Substitute, Control, C1Control, EscapeSequence, ControlSequence}
use Rattle.parser.specs.Parser.{decode}
use Rattle.ground.proofs.TestLaws.{either}
use Rattle.device.specs.declared.sending.Reply.{Reply}
use Rattle.device.proofs.SendLaws.{TwoDigits, reply-short}
use Rattle.core_state.specs.declared.Core.{Core}
use Rattle.core_state.specs.Whole.{Whole}
use Rattle.dispatch.specs.Heard.{heard}
use Rattle.dispatch.specs.Replies.{reported_row, reply, reply_to}
use Rattle.dispatch.specs.Decide.{sends}

two-either : (t : Bool) (x y : Option Reply) → TwoDigits x → TwoDigits y → TwoDigits (cond t x y)
two-either t x y f g = either TwoDigits t (λ _. f) (λ _. g)

module _ (c : Core) (w : Whole c) where
  position-small : (reported_row c < 100) × (c.cursor.column < 100)
  position-small = omega arith

  two_digits : (a : Action) → TwoDigits (reply c a)
  two_digits Nothing = tt
  two_digits (Character b) = tt
  two_digits Substitute = tt
  two_digits (Control b) = tt
  two_digits (C1Control b) = search (two-either, tt)
  two_digits (EscapeSequence first second last) = tt
  two_digits (ControlSequence f) = search (two-either, position-small, tt) depth 10

  pub sends-short : (b : ℕ) → length (sends c b) ≤ 11
  unfolding sends reply_to
  sends-short b =
      let a = (decode c.parser b).action in
      reply-short c.modes.eightbit (reply_to c a) (two_digits (heard c a))
