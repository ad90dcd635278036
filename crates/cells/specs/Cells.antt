-- Cell words (SCOPE 1.2 to 1.6): a cell is a code, a set and five flags, packed into 16 bits.
-- Bits 0 to 6 are the code, 7 and 8 the set, 9 to 13 bold, underline, blink, reverse and protected. Bits 14 and 15 are unused.
use Rattle.std.specs.Prelude.{◌≡◌, Bool, true, false, cond, not, ◌&&◌, ◌||◌, ℕ, ◌+◌, ◌*◌, ◌/◌, ◌%◌, ◌^◌, ◌<◌, eqb, leb}
use Rattle.cells.specs.declared.CharSet.{CharSet}
use Rattle.cells.specs.declared.CharSet.TheVariants.{Ascii, SpecialGraphics, Supplemental, Latin1}
use Rattle.cells.specs.declared.Rendition.{Rendition}
use Rattle.cells.specs.declared.Cell.{Cell}
use Rattle.cells.specs.declared.Setting.{Setting}
use Rattle.cells.specs.declared.Setting.TheVariants.{Same, On, Off, Flipped}
use Rattle.cells.specs.declared.Styling.{Styling}
use Rattle.cells.specs.declared.CellChange.{CellChange}
use Rattle.cells.specs.declared.CellChange.TheVariants.{SelectiveErase, Restyle}

-- ---- the fields

abbrev pub set_number : CharSet → ℕ
set_number Ascii = 0
set_number SpecialGraphics = 1
set_number Supplemental = 2
set_number Latin1 = 3

abbrev pub set_of : ℕ → CharSet
set_of n = cond (eqb n 0) Ascii (cond (eqb n 1) SpecialGraphics (cond (eqb n 2) Supplemental Latin1))

-- a flag as a bit, and back
abbrev pub bit : Bool → ℕ
bit true = 1
bit false = 0

abbrev pub flag : ℕ → Bool
flag n = eqb (n % 2) 1

abbrev pub rendition_bits : Rendition → ℕ
rendition_bits r = bit r.bold + 2 * bit r.underline + 4 * bit r.blink + 8 * bit r.reverse

-- ---- packing: unused bits are written zero

unfoldable pub packed : Cell → ℕ
packed c = c.code % 128 + 128 * set_number c.set + 512 * rendition_bits c.rendition + 8192 * bit c.protected

-- any word is accepted, whatever its unused bits
unfoldable pub unpacked : ℕ → Cell
unpacked w = record {
  code = w % 128;
  set = set_of (w / 128 % 4);
  rendition = record { bold = flag (w / 512); underline = flag (w / 1024); blink = flag (w / 2048); reverse = flag (w / 4096) };
  protected = flag (w / 8192);
}

-- ---- plain cells, blank ones, and what selective erase leaves

abbrev pub plain : Rendition
plain = record { bold = false; underline = false; blink = false; reverse = false }

-- a code of ASCII with no flag
abbrev pub plain_cell : ℕ → Cell
plain_cell code = record { code = code; set = Ascii; rendition = plain; protected = false }

-- code 20, ASCII, no flag: the word of `plain_cell 0x20`
abbrev pub blank : ℕ
blank = 0x20

-- the code becomes 20 of ASCII, the flags stay, the unused bits are written zero
unfoldable pub spaced : ℕ → ℕ
spaced w = packed (record { code = 0x20; set = Ascii; rendition = (unpacked w).rendition; protected = (unpacked w).protected })

-- selective erase skips a protected cell
unfoldable pub selectively_erased : ℕ → ℕ
selectively_erased w = cond (unpacked w).protected w (spaced w)

-- ---- attributes that change

-- settings and stylings as numbers, and back: a digit of base 4 for each attribute
abbrev pub setting_number : Setting → ℕ
setting_number Same = 0
setting_number On = 1
setting_number Off = 2
setting_number Flipped = 3

abbrev pub setting_of : ℕ → Setting
setting_of n = cond (eqb n 0) Same (cond (eqb n 1) On (cond (eqb n 2) Off Flipped))

unfoldable pub styling_number : Styling → ℕ
styling_number s = setting_number s.bold + 4 * setting_number s.underline + 16 * setting_number s.blink + 64 * setting_number s.reverse

unfoldable pub styling_of : ℕ → Styling
styling_of n = record { bold = setting_of (n % 4); underline = setting_of (n / 4 % 4); blink = setting_of (n / 16 % 4); reverse = setting_of (n / 64) }

abbrev pub set_by : Setting → Bool → Bool
set_by Same on = on
set_by On on = true
set_by Off on = false
set_by Flipped on = not on

abbrev pub styled : Styling → Rendition → Rendition
styled s r = record {
  bold = set_by s.bold r.bold;
  underline = set_by s.underline r.underline;
  blink = set_by s.blink r.blink;
  reverse = set_by s.reverse r.reverse;
}

-- code, set and protection stay, the unused bits are written zero
unfoldable pub restyled : Styling → ℕ → ℕ
restyled s w =
    let c = unpacked w in
    packed (record { code = c.code; set = c.set; rendition = styled s c.rendition; protected = c.protected })

-- what a change makes of a word
abbrev pub changed_by : CellChange → ℕ → ℕ
changed_by SelectiveErase w = selectively_erased w
changed_by (Restyle n) w = restyled (styling_of n) w

-- ---- what bytes put into cells

-- the codes that a cell of each set holds: its signs, and of ASCII the space and 1A, which SUB puts
abbrev pub has_sign : CharSet → ℕ → Bool
has_sign Ascii x = (leb 0x20 x && leb x 0x7E) || eqb x 0x1A
has_sign SpecialGraphics x = leb 0x21 x && leb x 0x7E
has_sign Supplemental x = leb 0x21 x && leb x 0x7E
has_sign Latin1 x = leb 0x20 x && leb x 0x7F

-- a word with such a code and no unused bit
pub record Printable (w : ℕ) : Type 0 where
  pub code : has_sign (unpacked w).set (unpacked w).code ≡ true
  pub unused : w < 2 ^ 14
