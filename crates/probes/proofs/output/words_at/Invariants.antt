-- The loop's invariant: the words from the index on are still to be put.
use Rattle.std.proofs.Common.{drop}
use Rattle.probes.specs.Output.{word_bytes}
use Rattle.probes.proofs.OutputLaws.{Remaining}
use Rattle.probes.proofs.output.words_at.Given as goal

abbrev pub invariant-loop-word : goal.invariant-loop-word
invariant-loop-word l = Remaining l.initial.out (word_bytes l.from) l.out (word_bytes (drop l.word-index l.from))
