-- What the control touches is what its action does, and its edit is applied.
use Rattle.std.proofs.Common.{refl, arith}
use Rattle.core_state.specs.Effects.{with_cursor}
use Rattle.dispatch.specs.Touches.{control_action}
use Rattle.dispatch.proofs.TouchLaws.{direct-decode, direct-quiet}
use Rattle.spans.proofs.ActionLaws.{action-within, action-done}
use Rattle.spans.proofs.direct.control_step.Goals as goal

pub apply-requires : goal.apply-requires
apply-requires c =
    let core = c.args.core in
    let b = c.args.byte in
    let w = c.requires.0.whole in
    record {
      long = c.requires.0.size;
      few = omega (arith, w.parts.bounds.count.high);
      within = action-within core c.args.page.now b core.parser (control_action b) (with_cursor core c.control_touch-touch.result.cursor) _ c.requires.0
          (direct-decode core.parser b c.requires.1 c.requires.2) c.control_touch-touch.ensures;
    }

pub returns : goal.returns
returns c =
    let core = c.args.core in
    let b = c.args.byte in
    action-done core c.args.page.now b core.parser (control_action b) (with_cursor core c.control_touch-touch.result.cursor) _ c.requires.0
    (direct-decode core.parser b c.requires.1 c.requires.2) c.control_touch-touch.ensures
    c.args.changed c.apply.new.page c.apply.result (direct-quiet b c.requires.2) refl c.apply.ensures.page c.apply.ensures.marked
