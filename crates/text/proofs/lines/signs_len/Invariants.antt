-- The loop's invariant: `len` is the number of bytes of the first signs, at most three each.
use mathlib.Core.Path.{◌≡◌}
use mathlib.Core.List.{map}
use lib.ListN.{length, take}
use Rattle.text.specs.Text.{sign, encoded}
use Rattle.text.proofs.lines.signs_len.Given as goal

abbrev pub invariant-loop-word : goal.invariant-loop-word
invariant-loop-word l = l.len ≡ length (encoded (map sign (take l.word-index l.cells)))
