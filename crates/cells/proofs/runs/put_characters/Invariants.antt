-- After the blocks, each turn puts one character. Whatever page the blocks were put on, what the loop adds is put after them.
use mathlib.Core.Path.{◌≡◌}
use mathlib.Core.List.{List}
use lib.ListN.{length}
use Rattle.cells.specs.Runs.{PutSome}
use Rattle.cells.proofs.runs.put_characters.Given as goal

abbrev pub invariant-loop-k : goal.invariant-loop-k
invariant-loop-k l =
    (p : List _) → length p ≡ length l.initial.page → PutSome p l.initial.page l.to l.input l.from l.pen l.initial.k l.initial.changed
    → PutSome p l.page l.to l.input l.from l.pen l.k l.changed
