-- A byte's step keeps a whole core whole, with as many rows, and its edits stay on the page.
use Rattle.std.proofs.Common.{◌≡◌, ℕ, false, not, refl}
use borrow.Author.Tests.{not-true}
use Rattle.parser.specs.declared.parser.Action.{Action}
use Rattle.parser.specs.declared.parser.Action.TheVariants.{Nothing, Character, Substitute, Control, C1Control, EscapeSequence, ControlSequence}
use Rattle.core_state.specs.declared.Core.{Core}
use Rattle.core_state.specs.Whole.{Parts, WrapOf, Whole}
use Rattle.parser.specs.Parser.{decode}
use Rattle.ground.proofs.TestLaws.{and_right, either}
use Rattle.dispatch.specs.Heard.{is_listed, is_ignored, is_heard, heard}
use Rattle.dispatch.specs.WrapDue.{keeps_wrap, clears_wrap}
use Rattle.core_state.specs.Effects.{with_parser}
use Rattle.dispatch.specs.Decide.{effect, executed, decided}
use Rattle.wholeness.proofs.Decisions.{Good, Sound, policy-sound, good-unedited}
use Rattle.wholeness.proofs.SoundParser.{decode-whole}
use Rattle.wholeness.proofs.SoundPrinting.{good-printed, good-substituted}
use Rattle.wholeness.proofs.SoundControls.{good-controlled, good-c1}
use Rattle.wholeness.proofs.SoundEscapes.{good-escaped}
use Rattle.wholeness.proofs.SoundSequences.{good-sequenced}

-- an action and the policy for it
abbrev GoodAction : Core → Action → Type 0
GoodAction c a = Good c.rows (not (keeps_wrap c a)) (effect c a)

good-action : (c : Core) (a : Action) → Parts c → WrapOf c → is_ignored c a ≡ false → GoodAction c a
good-action c Nothing p h n = good-unedited c false p (λ e. h)
good-action c (Character b) p h n = good-printed c b false p h
good-action c Substitute p h n = good-substituted c false p
good-action c (Control b) p h n = good-controlled c _ p h b
good-action c (C1Control b) p h n = good-c1 c _ p h b
good-action c (EscapeSequence first second last) p h n = good-escaped c _ p h first second last
good-action c (ControlSequence f) p h n = good-sequenced c p h c.parser.params f.mark f.first f.second f.last n

-- what is not heard is nothing
good-heard : (c : Core) (a : Action) → Parts c → WrapOf c → GoodAction c (heard c a)
good-heard c a p h =
    either (GoodAction c) (is_heard c a)
    (λ e. good-action c a p h (not-true (is_ignored c a) (and_right (is_listed a) (not (is_ignored c a)) e)))
    (λ e. good-action c Nothing p h refl)

pub executed-sound : (c : Core) (a : Action) → Whole c → Sound c.rows (executed c a)
unfolding executed clears_wrap
executed-sound c a w = policy-sound c.rows (clears_wrap c a) (effect c (heard c a)) (good-heard c a w.parts w.wrap)

-- the parser takes the byte first
pub read_whole : (c : Core) (b : ℕ) → Whole c → Whole (with_parser c (decode c.parser b).parser)
read_whole c b w =
    let p = w.parts in
    record { parts = record { bounds = p.bounds; origin = p.origin; saved = p.saved; parser = decode-whole c.parser p.parser b }; wrap = w.wrap }

pub decided-sound : (c : Core) (b : ℕ) → Whole c → Sound c.rows (decided c b)
unfolding decided
decided-sound c b w = executed-sound (with_parser c (decode c.parser b).parser) (decode c.parser b).action (read_whole c b w)
