-- Whatever the words are to be, those before `k` are written.
use mathlib.Core.Path.{◌≡◌}
use mathlib.Core.List.{List}
use lib.ListN.{length, get_or}
use Prim.Native.Nat.{ℕ, ◌+◌, ◌≤◌, ◌<◌}
use Rattle.cells.specs.Segments.{Pasted}
use Rattle.cells.proofs.segments.paste_words.Given as goal

abbrev pub invariant-loop-k : goal.invariant-loop-k
invariant-loop-k g l =
    (s : List ℕ) → l.len ≤ length s → ((k w : ℕ) → k < l.len → goal.F-post g l.word k (get_or l.initial.page (l.to + k) 0) w → w ≡ get_or s k 0)
    → Pasted l.initial.page l.page l.to s l.k l.changed
