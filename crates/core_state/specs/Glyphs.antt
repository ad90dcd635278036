-- The cell that a byte puts (SCOPE 4).
use Rattle.std.specs.Prelude.{ℕ, ◌%◌, Bool, cond, not, ◌&&◌, ◌||◌, ◌==◌, nat_lt}
use Rattle.cells.specs.declared.CharSet.{CharSet}
use Rattle.cells.specs.declared.CharSet.TheVariants.{Ascii}
use Rattle.cells.specs.Cells.{packed}
use Rattle.device.specs.Charsets.{has96, left_set, right_set}
use Rattle.core_state.specs.declared.Core.{Core}

-- the set that a byte uses
abbrev pub used_set : Core → ℕ → CharSet
used_set c b = cond (nat_lt b 0x80) (left_set c.sets c.shift) (right_set c.sets)

-- signs of a 96-sign set alone
abbrev pub is_edge : ℕ → Bool
is_edge b = (b == 0x7F || b == 0xA0) || b == 0xFF

-- in a 94-sign set they are ignored
abbrev pub skipped : CharSet → ℕ → Bool
skipped s b = not (has96 s) && is_edge b

-- in a 94-sign set 20 is code 20 of set ASCII
abbrev pub shown_set : CharSet → ℕ → CharSet
shown_set s b = cond (not (has96 s) && b == 0x20) Ascii s

-- the cell takes code, set, rendition and protection
abbrev pub cell_word : Core → ℕ → CharSet → ℕ
cell_word c code s = packed (record { code = code; set = s; rendition = c.rendition; protected = c.protected })

-- the word of the cell that a byte puts
abbrev pub glyph : Core → ℕ → ℕ
glyph c b = cell_word c (b % 128) (shown_set (used_set c b) b)
