-- The parts of a core that a byte moves without going through the rest, and where such a byte ends a control sequence.
use Rattle.std.specs.Prelude.{Bool, ◌&&◌, ◌==◌}
use Rattle.cells.specs.declared.Rendition.{Rendition}
use Rattle.parser.specs.declared.parser.Parser.{Parser}
use Rattle.parser.specs.Phases.{takes_parameters}
use Rattle.device.specs.declared.cursor.Cursor.{Cursor}
use Rattle.core_state.specs.declared.Core.{Core}
use Rattle.core_state.specs.Effects.{with_cursor, with_rendition, with_parser}

abbrev pub with_parts : Core → Cursor → Rendition → Parser → Core
with_parts c u r s = with_parser (with_rendition (with_cursor c u) r) s

-- in a control sequence with no mark and no intermediate
abbrev pub in_plain_sequence : Parser → Bool
in_plain_sequence s = takes_parameters s.phase && s.mark == 0
