-- SCOPE 11.1 to 11.10, and some examples of our own, hold of the definitions (specs/Examples.antt).
use Rattle.std.proofs.Common.{◌≡◌, true, refl}
use Rattle.core_state.specs.Fresh.{fresh_core}
use Rattle.core_state.specs.Whole.{whole_core, whole_displays}
use Rattle.steps.specs.Steps.{ran, sent, readable}
use Rattle.steps.specs.Whole.{whole_state}
use Rattle.terminal.specs.Feed.{fed}
use Rattle.examples.specs.Examples.{holds, table, all_hold, goes_to, begun, Examples, p8}

-- by computing; where one fails, `holds` of each alone tells which
table_holds : all_hold table ≡ true
unfolding holds
table_holds = refl

p8-unchanged : goes_to begun p8 ≡ begun
unfolding fresh_core whole_core whole_displays whole_state readable sent ran fed
p8-unchanged = refl

pub examples : Examples
examples = record { lines = table_holds; unchanged = p8-unchanged }
