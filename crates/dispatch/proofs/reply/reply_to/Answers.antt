-- Each arm is the definition's clause for that action, which is heard if it draws a reply.
use Rattle.dispatch.proofs.ActionLaws.{no-reply}
use Rattle.dispatch.proofs.HeardLaws.{reply-heard}
use borrow.Enum.Refused.{opened}
use Rattle.dispatch.proofs.reply.reply_to.Goals as goal

pub returns-in-C1Control : goal.returns-in-C1Control
returns-in-C1Control c = rw (← reply-heard) (search c.in-C1Control.is)

pub returns-in-ControlSequence : goal.returns-in-ControlSequence
returns-in-ControlSequence c = rw (← reply-heard) (search c.in-ControlSequence.is)

pub returns-in_default : goal.returns-in_default
returns-in_default c = rw (← reply-heard) (no-reply c.args.core c.args.action (opened c.in_default.in_default-own.keys3))
