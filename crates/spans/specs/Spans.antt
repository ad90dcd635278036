-- Bytes of an input that were done on a display, none of which interrupts. They are done at once, where SCOPE 4.9 has a step for each.
use Rattle.std.specs.Prelude.{◌≡◌, ℕ, ◌≤◌, List, length}
use Rattle.ground.specs.Spans.{span}
use Rattle.core_state.specs.declared.Core.{Core}
use Rattle.steps.specs.OneDisplay.{display, acts, acts_over, lasting, Quiet, AllQuiet}
use Rattle.steps.specs.Ready.{Paged}

-- the bytes from one place up to another were done, and autowrap is as it was all along
pub record Spanned (c : Core) (n : ℕ) (p input : List ℕ) (from next : ℕ) (c' : Core) (n' : ℕ) (p' : List ℕ) : Type 0 where
  pub start : from ≤ next
  pub end : next ≤ length input
  pub display-is : display c' p' n' ≡ acts_over (display c p n) (span input from next)
  pub quiet : AllQuiet c (span input from next)
  pub lasts : lasting c (span input from next) ≡ c.modes.autowrap
  pub autowrap : c'.modes.autowrap ≡ c.modes.autowrap
  pub paged : Paged c' p'
  pub long : length p' ≡ length p

-- one byte was done, which does not interrupt and leaves autowrap
pub record ByteDone (c : Core) (n : ℕ) (p : List ℕ) (b : ℕ) (c' : Core) (n' : ℕ) (p' : List ℕ) : Type 0 where
  pub quiet : Quiet c b
  pub display-is : display c' p' n' ≡ acts (display c p n) b
  pub autowrap : c'.modes.autowrap ≡ c.modes.autowrap
