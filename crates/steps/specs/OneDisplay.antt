-- Bytes on one display, the page or the line as a page of one row: core, cells and changed rows after them.
use Rattle.std.specs.Prelude.{◌≡◌, ℕ, Bool, false, ◌&&◌, List, [], ◌∷◌, bit_or}
use Rattle.parser.specs.Parser.{decode}
use Rattle.core_state.specs.declared.Core.{Core}
use Rattle.core_state.specs.declared.Decision.{Decision}
use Rattle.dispatch.specs.Decide.{decided}
use Rattle.dispatch.specs.Displays.{Edits}
use Rattle.dispatch.specs.Events.{is_eventful}
use Rattle.steps.specs.Steps.{edited_by}

pub record Display : Type 0 where
  pub core : Core
  pub cells : List ℕ
  pub changed : ℕ

abbrev pub display : Core → List ℕ → ℕ → Display
display c p n = record { core = c; cells = p; changed = n }

-- what is decided, as edits
abbrev pub edits_of : Decision → Edits
edits_of x = record { first = x.first; second = x.second }

-- one byte
unfoldable pub acts : Display → ℕ → Display
acts d b =
    let x = decided d.core b in
    let m = edited_by d.core.rows (edits_of x) d.cells in
    record { core = x.core; cells = m.page; changed = bit_or d.changed m.changed }

-- one after the other
unfoldable pub acts_over : Display → List ℕ → Display
acts_over d [] = d
acts_over d (b ∷ bs) = acts_over (acts d b) bs

-- the core after them, which depends on no cell
unfoldable pub core_over : Core → List ℕ → Core
core_over c [] = c
core_over c (b ∷ bs) = core_over (decided c b).core bs

-- whether autowrap is on before the first, and after each
unfoldable pub lasting : Core → List ℕ → Bool
lasting c [] = c.modes.autowrap
lasting c (b ∷ bs) = c.modes.autowrap && lasting (decided c b).core bs

-- ---- bytes that draw no reply and tell the line nothing

abbrev pub Quiet : Core → ℕ → Type 0
Quiet c b = is_eventful (decode c.parser b).action ≡ false

unfoldable pub AllQuiet : Core → List ℕ → Type 0
AllQuiet c [] = Unit {0}
AllQuiet c (b ∷ bs) = Quiet c b × AllQuiet (decided c b).core bs

-- all but the first
unfoldable pub RestQuiet : Core → List ℕ → Type 0
RestQuiet c [] = Unit {0}
RestQuiet c (b ∷ bs) = AllQuiet (decided c b).core bs
