-- Bytes of text, and their line feeds.
use Rattle.std.specs.Prelude.{Bool, true, cond, ◌&&◌, ◌||◌, List, [], ◌∷◌, ℕ, ◌+◌, eqb}
use Rattle.ground.specs.Tests.{between}

-- a character of GL, CR or LF
abbrev pub is_text : ℕ → Bool
is_text b = between 0x20 b 0x7E || (eqb b 0x0A || eqb b 0x0D)

-- every byte is text
unfoldable pub all_text : List ℕ → Bool
all_text [] = true
all_text (b ∷ bs) = is_text b && all_text bs

-- how many are line feeds
unfoldable pub feeds_of : List ℕ → ℕ
feeds_of [] = 0
feeds_of (b ∷ bs) = cond (eqb b 0x0A) 1 0 + feeds_of bs
