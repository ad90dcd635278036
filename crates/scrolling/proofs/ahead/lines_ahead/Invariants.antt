-- Each block that is taken is text, and its line feeds are added to those before it.
use mathlib.Core.Path.{◌≡◌}
use Rattle.std.specs.Slice.Iter.{chunks_exact_rest, chunks_exact_size}
use Rattle.scrolling.proofs.TextLaws.{Taken}
use Rattle.scrolling.proofs.ahead.lines_ahead.Given as goal

abbrev pub invariant-loop-block : goal.invariant-loop-block
invariant-loop-block l =
    (chunks_exact_size l.block-iterator ≡ 16) × Taken l.input (chunks_exact_rest l.block-iterator) l.most l.feeds l.len
