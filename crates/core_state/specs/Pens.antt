-- The pen of a rendition, protection and sets, with no shift pending: its words are those of `glyph` (core/proofs/PenLaws.antt).
use Rattle.std.specs.Prelude.{ℕ, ◌+◌, ◌*◌, Bool, cond, ◌==◌}
use Rattle.cells.specs.declared.CharSet.TheVariants.{Ascii}
use Rattle.cells.specs.declared.Rendition.{Rendition}
use Rattle.cells.specs.declared.runs.Pen.{Pen}
use Rattle.cells.specs.Cells.{set_number, packed}
use Rattle.device.specs.declared.charsets.Sets.{Sets}
use Rattle.device.specs.declared.charsets.SingleShift.TheVariants.{NoShift}
use Rattle.device.specs.Charsets.{has96, left_set, right_set}

-- a word's flags, without code and set
abbrev pub flag_bits : Rendition → Bool → ℕ
flag_bits r p = packed (record { code = 0; set = Ascii; rendition = r; protected = p })

-- what the words of GL have, but for the code; of GR; and that of a space, which a 94-sign set takes from ASCII
abbrev pub left_base : Rendition → Bool → Sets → ℕ
left_base r p s = flag_bits r p + 128 * set_number (left_set s NoShift)

abbrev pub right_base : Rendition → Bool → Sets → ℕ
right_base r p s = flag_bits r p + 128 * set_number (right_set s)

abbrev pub space_base : Rendition → Bool → Sets → ℕ
space_base r p s = cond (has96 (left_set s NoShift)) (left_base r p s) (flag_bits r p)

unfoldable pub pen_of : Rendition → Bool → Sets → Pen
pen_of r p s = record {
  left = left_base r p s;
  right = right_base r p s;
  space = space_base r p s + 0x20;
  low = cond (space_base r p s == left_base r p s) 0x20 0x21;
}
