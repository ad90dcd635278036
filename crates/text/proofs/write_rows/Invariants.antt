-- The loop's invariant: the text of the first rows was written.
use Rattle.text.specs.Text.{text_of}
use Rattle.ground.specs.Writes.{Appended}
use Rattle.text.proofs.write_rows.Given as goal

abbrev pub invariant-loop-k : goal.invariant-loop-k
invariant-loop-k l = Appended l.initial.writer (text_of l.k l.page) l.writer
