-- One byte by its action: what the parser makes of it, and what the action does.
use Rattle.std.proofs.Common.{◌≡◌, ℕ, false, List, ap, ◌∙◌}
use lib.Bits.{bit_or}
use Rattle.cells.specs.Sets.{bits_of, changed}
use Rattle.page.specs.declared.Edit.{Edit}
use Rattle.page.specs.Edits.{applied, Within}
use Rattle.parser.specs.declared.parser.Parser.{Parser}
use Rattle.parser.specs.declared.parser.Action.{Action}
use Rattle.parser.specs.declared.parser.Decoded.{Decoded}
use Rattle.parser.specs.Parser.{decode}
use Rattle.core_state.specs.declared.Core.{Core}
use Rattle.core_state.specs.Effects.{with_parser, one_edit}
use Rattle.dispatch.specs.Decide.{executed, decided}
use Rattle.dispatch.specs.Events.{is_eventful}
use Rattle.steps.specs.Ready.{Paged}
use Rattle.spans.specs.Spans.{ByteDone}
use Rattle.spans.proofs.ByteLaws.{edit-within, done-by}

module _ (c : Core) (p : List ℕ) (b : ℕ) (s : Parser) (a : Action) (c' : Core) (e : Edit) (k : Paged c p)
    (read : decode c.parser b ≡ record { parser = s; action = a }) (does : one_edit c' e ≡ executed (with_parser c s) a) where
  decides : one_edit c' e ≡ decided c b
  unfolding decided
  decides = does ∙ rw read

  -- its edit stays on the page
  pub action-within : Within c.rows e
  action-within = edit-within c p b c' e k decides

  -- and is applied
  pub action-done : (n : ℕ) (q : List ℕ) (n' : ℕ) → is_eventful a ≡ false → c'.modes.autowrap ≡ c.modes.autowrap
      → q ≡ applied c.rows e p → n' ≡ bit_or n (bits_of c.rows (changed p q)) → ByteDone c n p b c' n' q
  action-done n q n' quiet on =
      done-by c n p b c' e q n' k (ap (λ (d : Decoded). is_eventful d.action) read ∙ quiet) decides on
