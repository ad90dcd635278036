-- What an arm for "the other actions" of a `match` gives is what the definition has for each of these actions.
use Rattle.std.proofs.Common.{◌≡◌, ℕ, None, List, [], ◌∷◌, refl}
use denote.Enum.Declared.{tag_of}
use types.Run.{OneOf, miss}
use Rattle.parser.specs.declared.parser.Action.{Action}
use Rattle.parser.specs.declared.parser.Action.TheVariants.{Nothing, Character, Substitute, Control, C1Control, EscapeSequence, ControlSequence}
use Rattle.parser.specs.contracts.parser.Action as action
use Rattle.core_state.specs.declared.Core.{Core}
use Rattle.dispatch.specs.Replies.{reply}

-- the actions that draw no reply
abbrev pub silent_actions : List ℕ
silent_actions = 0 ∷ 1 ∷ 2 ∷ 3 ∷ 5 ∷ []

pub no-reply : (c : Core) (a : Action) → OneOf silent_actions (tag_of action.the_type a) → None ≡ reply c a
no-reply c Nothing h = refl
no-reply c (Character b) h = refl
no-reply c Substitute h = refl
no-reply c (Control b) h = refl
no-reply c (C1Control b) h = absurd (miss silent_actions 4 tt h)
no-reply c (EscapeSequence first second last) h = refl
no-reply c (ControlSequence f) h = absurd (miss silent_actions 6 tt h)
