-- Pages whose text is known, computed from the definitions.
use mathlib.Core.Path.{◌≡◌, refl}
use mathlib.Core.List.{List, [], ◌∷◌, ◌++◌}
use Prim.Native.Nat.{ℕ}
use Prim.Native.Char.{code}
use Prim.Native.String.{String}
use lib.ListN.{replicate}
use Rattle.cells.specs.Cells.{unpacked}
use Rattle.std.specs.Prelude.{Ok, Err}
use Rattle.text.specs.Text.{sign, trimmed, encoded, lines, text_of, written}

-- the codes of a text whose characters are all below 80
abbrev pub ascii : String → List ℕ
ascii String.[] = []
ascii (String.◌∷◌ c s) = code c ∷ ascii s

-- SCOPE 10.8: "Hi" gives "Hi" and 23 empty lines
pub hi : text_of 24 (0x48 ∷ 0x69 ∷ replicate 1918 0x20) ≡ ascii "Hi" ++ replicate 24 0x0A
unfolding unpacked sign trimmed encoded lines text_of
hi = refl

-- spaces before a sign stay; a bold space at the end goes, since it is U+0020 too; U+00A0 stays
pub spaces : text_of 1 (0x20 ∷ 0x41 ∷ 0x20 ∷ 0x0220 ∷ replicate 76 0x20) ++ text_of 1 (0x01A0 ∷ replicate 79 0xA0) ≡ ascii " A\n" ++ (0xC2 ∷ 0xA0 ∷ 0x0A ∷ [])
unfolding unpacked sign trimmed encoded lines text_of
spaces = refl

-- SUB's sign in any set, Supplemental, é of Latin-1, a line-drawing corner, pi, the first and the last of the table, and codes that no printing puts into a
-- cell
pub signs :
    encoded (sign 0x001A ∷ sign 0x019A ∷ sign 0x0161 ∷ sign 0x01E9 ∷ sign 0x00EC ∷ sign 0x00FB ∷ sign 0x00DF ∷ sign 0x00FE ∷ sign 0x0007 ∷ sign 0x00FF ∷ [])
    ≡ 0xE2 ∷ 0x90 ∷ 0xA6 ∷ 0xE2 ∷ 0x90 ∷ 0xA6 ∷ 0x3F ∷ 0xC3 ∷ 0xA9 ∷ 0xE2 ∷ 0x94 ∷ 0x8C ∷ 0xCF ∷ 0x80 ∷ 0xC2 ∷ 0xA0 ∷ 0xC2 ∷ 0xB7 ∷ 0x3F ∷ 0x3F ∷ []
unfolding unpacked sign encoded
signs = refl

-- a row that fits, and one that does not
pub whole : written (0x48 ∷ 0x69 ∷ replicate 78 0x20) (1 ∷ 2 ∷ 3 ∷ 4 ∷ []) ≡ record { number = 0; result = Ok 3; buffer = 0x48 ∷ 0x69 ∷ 0x0A ∷ 4 ∷ [] }
unfolding unpacked sign trimmed encoded lines text_of written
whole = refl

pub no_room : written (0x48 ∷ 0x69 ∷ replicate 78 0x20) (1 ∷ 2 ∷ []) ≡ record { number = 3; result = Err (record {}); buffer = 1 ∷ 2 ∷ [] }
unfolding unpacked sign trimmed encoded lines text_of written
no_room = refl
