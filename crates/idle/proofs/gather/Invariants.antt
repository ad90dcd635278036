-- The loop keeps `Skipped`, in a phase that takes parameters: each way is the definition's, by the tests on the byte and the separators.
use mathlib.Core.Path.{◌≡◌}
use mathlib.Core.Bool.{true}
use Prim.Native.Nat.{ℕ, ◌-◌, ◌<◌}
use lib.ListN.{length}
use mathlib.Core.List.{List}
use Rattle.parser.specs.declared.phases.Phase.{Phase}
use Rattle.parser.specs.declared.parser.Parser.{Parser}
use Rattle.parser.specs.Parser.{with_params}
use Rattle.idle.specs.Idle.{Skipped}
use Rattle.parser.specs.Phases.{takes_parameters}
use Rattle.idle.proofs.gather.Given as goal

-- the parser with the phase, the mark, the separators and the values of the loop
abbrev pub so_far : Parser → Phase → ℕ → ℕ → List ℕ → Parser
so_far s p m n vs = with_params p s m (record { separators = n; values = vs })

abbrev pub invariant-loop-phase : goal.invariant-loop-phase
invariant-loop-phase l =
    (l.separators < 256) × (length l.values ≡ 16) × (takes_parameters l.phase ≡ true)
    × Skipped l.parser l.input l.from (record { parser = so_far l.parser l.phase l.mark l.separators l.values; next = l.i })

abbrev pub decreases-loop-phase : goal.decreases-loop-phase
decreases-loop-phase l = length l.input - l.i
