-- What the end of the sequence touches is what its action does, and its edit is applied.
use Rattle.std.proofs.Common.{◌≡◌, sym, refl, arith}
use Rattle.parser.specs.declared.phases.Phase.TheVariants.{Ground}
use Rattle.parser.specs.Parser.{in_phase, control_sequence, decode}
use Rattle.core_state.specs.Effects.{with_cursor, with_parser, one_edit}
use Rattle.dispatch.specs.Decide.{executed}
use Rattle.dispatch.proofs.TouchLaws.{touch-range, touch-quiet}
use Rattle.spans.proofs.SequenceLaws.{final-read}
use Rattle.spans.proofs.ActionLaws.{action-within, action-done}
use Rattle.spans.proofs.parts.sequence_step.Goals as goal
use Rattle.spans.proofs.parts.sequence_step.Goals.{After-sequence_touch-touch, Start}

-- what is decoded
read : (start : Start) → let s = start.args.core.parser in
    decode s start.args.last ≡ record { parser = in_phase Ground s; action = control_sequence 0 0 0 start.args.last }
read start =
    let r = touch-range start.args.last start.requires.2 in
    final-read start.args.core.parser start.args.last start.requires.1 r.0 r.1

-- what is touched, with the parser as the sequence leaves it
does : (c : After-sequence_touch-touch) → let at = with_parser c.args.core (in_phase Ground c.args.core.parser) in
    one_edit (with_cursor at c.sequence_touch-touch.result.cursor) c.sequence_touch-touch.result.edit ≡ executed at (control_sequence 0 0 0 c.args.last)
does c =
    c.sequence_touch-touch.ensures (in_phase Ground c.args.core.parser) (sym c.get.ensures) (sym c.get-2.ensures)

pub apply-requires : goal.apply-requires
apply-requires c =
    let w = c.requires.0.whole in
    record {
      long = c.requires.0.size;
      few = omega (arith, w.parts.bounds.count.high);
      within = action-within c.args.core c.args.page.now c.args.last _ _ _ _ c.requires.0
          (read (goal.at.apply-requires c).Start) (does (goal.at.apply-requires c).After-sequence_touch-touch);
    }

pub returns : goal.returns
returns c =
    action-done c.args.core c.args.page.now c.args.last _ _ _ _ c.requires.0
    (read (goal.at.returns c).Start) (does (goal.at.returns c).After-sequence_touch-touch)
    c.args.changed c.apply.new.page c.apply.result (touch-quiet c.args.last c.requires.2) refl
    c.apply.ensures.page c.apply.ensures.marked
