-- What the loop over one display's bytes promises.
use Rattle.std.specs.Prelude.{◌≡◌, ℕ, ◌<◌, ◌≤◌, List, length, take}
use Rattle.core_state.specs.declared.Core.{Core}
use Rattle.steps.specs.OneDisplay.{display, acts_over, lasting, RestQuiet}
use Rattle.feeding.specs.declared.display.Run.{Run}

-- the bytes that are read are done, at least one; none but the first may draw a reply or tell the line something
pub record Ran (c : Core) (n : ℕ) (p input : List ℕ) (r : Run) (p' : List ℕ) : Type 0 where
  pub most : r.read ≤ length input
  pub some : 0 < length input → 0 < r.read
  pub display-is : display r.core p' r.changed ≡ acts_over (display c p n) (take r.read input)
  pub quiet : RestQuiet c (take r.read input)
  pub lasts : r.lasting ≡ lasting c (take r.read input)
