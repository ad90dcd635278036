-- Each arm is the length of the definition's clause for that reply.
use mathlib.Core.Path.{sym}
use borrow.Author.Rules.{rules}
use Rattle.device.proofs.SendLaws.{position-length, extended-length}
use Rattle.device.proofs.sending.body_len.Goals as goal

pub returns-in-Position : goal.returns-in-Position
returns-in-Position c =
    record {
      is = rw (c.in-Position.is, c.decimal_len.ensures.is, c.decimal_len-in-Position.ensures.is) (sym (position-length c.in-Position.row c.in-Position.column));
      few = search rules;
    }

pub returns-in-ExtendedPosition : goal.returns-in-ExtendedPosition
returns-in-ExtendedPosition c =
    record {
      is = rw (c.in-ExtendedPosition.is, c.decimal_len-in-ExtendedPosition.ensures.is, c.decimal_len-in-ExtendedPosition-2.ensures.is) (sym (extended-length c.in-ExtendedPosition.row c.in-ExtendedPosition.column));
      few = search rules;
    }
