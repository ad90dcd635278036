-- The loop's invariant: the bytes of the first signs were written.
use mathlib.Core.List.{map}
use lib.ListN.{take}
use Rattle.text.specs.Text.{sign, encoded}
use Rattle.ground.specs.Writes.{Appended}
use Rattle.text.proofs.lines.write_signs.Given as goal

abbrev pub invariant-loop-word : goal.invariant-loop-word
invariant-loop-word l = Appended l.initial.out (encoded (map sign (take l.word-index l.cells))) l.out
