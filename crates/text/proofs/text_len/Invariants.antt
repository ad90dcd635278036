-- The loop's invariant: `len` is the length of the text of the first rows, which is small enough.
use mathlib.Core.Path.{◌≡◌}
use lib.ListN.{length}
use Rattle.text.specs.Text.{text_of}
use Rattle.text.proofs.text_len.Given as goal

abbrev pub invariant-loop-k : goal.invariant-loop-k
invariant-loop-k l = l.len ≡ length (text_of l.k l.page)
