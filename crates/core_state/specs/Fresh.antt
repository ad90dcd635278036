-- The fresh state (SCOPE 1.20 to 1.25), but for the changed rows, of which there are none, and the line (1.31).
use Rattle.std.specs.Prelude.{ℕ, true, false}
use Rattle.cells.specs.Cells.{plain}
use Rattle.device.specs.declared.charsets.SingleShift.TheVariants.{NoShift}
use Rattle.parser.specs.declared.phases.Phase.TheVariants.{Ground}
use Rattle.core_state.specs.declared.Modes.{Modes}
use Rattle.core_state.specs.declared.Saved.{Saved}
use Rattle.core_state.specs.declared.Core.{Core}
use Rattle.parser.specs.Parser.{cleared}
use Rattle.device.specs.Tabs.{every_eighth}
use Rattle.device.specs.Charsets.{fresh_sets}
use Rattle.device.specs.Cursor.{place}

-- modes off but cursor shown
abbrev pub fresh_modes : Modes
fresh_modes = record { insert = false; newline = false; origin = false; autowrap = false; shown = true; eightbit = false; rectangle = false }

abbrev pub fresh_saved : Saved
fresh_saved = record { cursor = place 1 1; rendition = plain; origin = false; sets = fresh_sets; protected = false; shift = NoShift }

unfoldable pub fresh_core : ℕ → Core
fresh_core r = record {
  rows = r;
  cursor = place 1 1;
  margins = record { top = 1; bottom = r };
  tabs = every_eighth;
  modes = fresh_modes;
  rendition = plain;
  protected = false;
  sets = fresh_sets;
  shift = NoShift;
  saved = fresh_saved;
  parser = cleared Ground;
}
