-- What is measured and sent is the definition's reply; a byte that does not interrupt draws none.
use Rattle.std.proofs.Common.{◌≡◌, Bool, cond, length, sym, refl, ap, ◌∙◌, zero-le, arith}
use Rattle.ground.proofs.Cases.{told}
use Rattle.ground.proofs.WriteLaws.{wrote_none}
use Rattle.parser.specs.declared.parser.Action.TheVariants.{Nothing}
use Rattle.parser.specs.Parser.{decode}
use Rattle.device.specs.ReplyBytes.{reply_bytes}
use Rattle.core_state.specs.declared.Core.{Core}
use Rattle.core_state.specs.declared.StatusLine.{StatusLine}
use Rattle.core_state.specs.declared.Displays.{Displays}
use Rattle.dispatch.specs.Displays.{sends_of}
use Rattle.dispatch.specs.Events.{heeded}
use Rattle.feeding.proofs.FeedLoop.{active-sends, uninterrupted-sends}
use Rattle.feeding.proofs.bytes.heed.Goals as goal
use Rattle.feeding.proofs.bytes.heed.Goals.{After-active_reply-kind, After-interruption-action}

abbrev displays_of : Core → StatusLine → Displays
displays_of c l = record { core = c; line = l }

-- it does not interrupt
pub returns-then-not-interrupts : goal.returns-then-not-interrupts
returns-then-not-interrupts c =
    let off = told c.interrupts.ensures (c.if-not-interrupts.true) in
    let none = uninterrupted-sends (displays_of c.args.core c.args.line) c.args.byte off in (
      sym (ap (λ (t : Bool). cond t (decode c.args.core.parser c.args.byte).action Nothing) off),
      record { room = rw none zero-le; wrote = rw none (wrote_none c.args.reply.now c.args.replied) },
    )

-- what it asks for
acts : (c : After-interruption-action) → c.interruption-action.result ≡ heeded c.args.core.parser c.args.byte
acts c =
    let yes = told c.interrupts.ensures (c.if-not-interrupts.false) in
    c.interruption-action.ensures ∙ sym (ap (λ (t : Bool). cond t (decode c.args.core.parser c.args.byte).action Nothing) yes)

-- and the reply to it, of the display that is active
replies : (c : After-active_reply-kind)
    → reply_bytes c.args.core.modes.eightbit c.active_reply-kind.result ≡ sends_of (displays_of c.args.core c.args.line) c.args.byte
replies c =
    ap (reply_bytes c.args.core.modes.eightbit) c.active_reply-kind.ensures
    ∙ active-sends (displays_of c.args.core c.args.line) c.args.byte c.interruption-action.result c.interruption-action.ensures

pub returns-then-reply-replied : goal.returns-then-reply-replied
returns-then-reply-replied c =
    record {
      room = omega (arith, c.if-reply-replied.true, c.reply_len.ensures, ap length (replies (goal.at.returns-then-reply-replied c).After-active_reply-kind));
      reply = refl;
    }

pub returns : goal.returns
returns c =
    let is = replies (goal.at.returns c).After-active_reply-kind in (
      acts (goal.at.returns c).After-interruption-action,
      record { room = omega (arith, c.if-reply-replied.false, c.reply_len.ensures, ap length is); wrote = rw is at c.send.ensures },
    )
