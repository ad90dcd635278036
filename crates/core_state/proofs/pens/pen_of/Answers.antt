-- Its parts are the definition's, by what the callees ensure and the two tests.
use borrow.Author.Tests.{eq-eqb, ne_eqb}
use Rattle.core_state.proofs.PenLaws.{pen-made}
use Rattle.core_state.proofs.pens.pen_of.Goals as goal
use Rattle.core_state.proofs.pens.pen_of.Goals.{then-has_96, else-has_96, then-space-left, else-space-left}

pub returns : goal.returns
returns c =
    pen-made _ _ _ _ _ _ _ _ c.flag_bits-flags.ensures.0
    (rw (c.from.ensures, c.left_set-gl.ensures))
    (rw (c.from-2.ensures, c.right_set-gr.ensures))
    (rw (← c.left_set-gl.ensures, ← c.has_96.ensures) (elim c.if-has_96.branch [ then-has_96 w ↦ rw w.if-has_96.true w.space-is | else-has_96 w ↦ rw w.if-has_96.false w.space-is ]))
    (elim c.if-space-left.branch [
      | then-space-left w ↦ rw (eq-eqb _ _ w.if-space-left.true) w.low-is
      | else-space-left w ↦ rw (ne_eqb _ _ w.if-space-left.false) w.low-is
    ])
