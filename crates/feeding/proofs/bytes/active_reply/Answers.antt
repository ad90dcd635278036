-- Either way the reply is that of the active display, which is whole.
use Rattle.std.proofs.Common.{Bool, cond, sym, ap, ◌∙◌}
use Rattle.core_state.specs.declared.Core.{Core}
use Rattle.core_state.specs.StatusLine.{line_view}
use Rattle.dispatch.specs.Replies.{reply_to}
use Rattle.wholeness.proofs.SoundDisplays.{view-whole}
use Rattle.feeding.proofs.bytes.active_reply.Goals as goal

pub reply_to-requires : goal.reply_to-requires
reply_to-requires c =
    rw c.line_view.ensures (view-whole (record { core = c.args.core; line = c.args.line }) c.requires).parts.bounds

pub returns-then-line : goal.returns-then-line
returns-then-line c =
    let a = c.args in
    c.reply_to.ensures ∙ ap (λ (x : Core). reply_to x a.action) c.line_view.ensures
    ∙ sym (ap (λ (t : Bool). reply_to (cond t (line_view a.core a.line) a.core) a.action) c.if-line.true)

pub returns : goal.returns
returns c =
    let a = c.args in
    c.reply_to-2.ensures ∙ sym (ap (λ (t : Bool). reply_to (cond t (line_view a.core a.line) a.core) a.action) c.if-line.false)
