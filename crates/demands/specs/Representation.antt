-- What the representation stands for: words, bytes and digits said in the scope's words, so that the definitions over them say what they
-- seem to. A sentence above each statement; proofs/Representation.antt has a theorem of each type.
use Rattle.std.specs.Prelude.{◌≡◌, ℕ, ◌/◌, ◌%◌, ◌^◌, ◌<◌, ◌≤◌, true, false, not, ◌&&◌, ◌||◌, ◌↔◌, [], ◌∷◌, length, ◌==◌, slice_index, slice_index_or}
use Rattle.cells.specs.declared.CharSet.TheVariants.{Ascii, SpecialGraphics, Supplemental, Latin1}
use Rattle.cells.specs.declared.Cell.{Cell}
use Rattle.cells.specs.declared.Styling.{Styling}
use Rattle.cells.specs.Cells.{packed, unpacked, plain_cell, blank, selectively_erased, styled, restyled}
use Rattle.cells.specs.Sets.{has_bit}
use Rattle.device.specs.declared.tabs.Tabs.{Tabs}
use Rattle.device.specs.Tabs.{is_tab, with_tab, without_tab, no_tabs, next_tab, tabs_up_to}
use Rattle.ground.specs.Decimals.{decimal, value_of}
use Rattle.terminal.specs.Start.{fresh}

-- ---- cells

-- A cell whose code has seven bits comes back from its word: no field is lost, and none touches another.
abbrev pub CellBack : Type 0
CellBack = (c : Cell) → c.code < 128 → unpacked (packed c) ≡ c

-- Two such cells with the same word are the same cell.
abbrev pub SameWord : Type 0
SameWord = (c d : Cell) → c.code < 128 → d.code < 128 → packed c ≡ packed d → c ≡ d

-- The word of any cell is below 2 ^ 14: its two unused bits are zero.
abbrev pub UnusedZero : Type 0
UnusedZero = (c : Cell) → packed c < 2 ^ 14

-- Each field of any word is at the documented bits: 0 to 6 the code, 7 and 8 the set, then bold, underline, blink, reverse, protected.
pub record AtBits (w : ℕ) : Type 0 where
  pub code : (unpacked w).code ≡ w % 128
  pub set : (unpacked w).set ≡ slice_index_or (Ascii ∷ SpecialGraphics ∷ Supplemental ∷ Latin1 ∷ []) (w / 128 % 4) Ascii
  pub bold : (unpacked w).rendition.bold ≡ has_bit w 9
  pub underline : (unpacked w).rendition.underline ≡ has_bit w 10
  pub blink : (unpacked w).rendition.blink ≡ has_bit w 11
  pub reverse : (unpacked w).rendition.reverse ≡ has_bit w 12
  pub protected : (unpacked w).protected ≡ has_bit w 13

abbrev pub DocumentedBits : Type 0
DocumentedBits = (w : ℕ) → AtBits w

-- The blank word is that of the blank cell: code 20, ASCII, no flag.
abbrev pub BlankWord : Type 0
BlankWord = blank ≡ packed (plain_cell 0x20)

-- Selective erase leaves a protected cell's word as it is, unused bits too. Any other becomes code 20 of ASCII with the same rendition and
-- protection, and its unused bits are zero.
pub record Erased (w v : ℕ) : Type 0 where
  pub skipped : (unpacked w).protected ≡ true → v ≡ w
  pub cell : (unpacked w).protected ≡ false
      → unpacked v ≡ record { code = 0x20; set = Ascii; rendition = (unpacked w).rendition; protected = (unpacked w).protected }
  pub unused : (unpacked w).protected ≡ false → v < 2 ^ 14

abbrev pub SelectiveErasure : Type 0
SelectiveErasure = (w : ℕ) → Erased w (selectively_erased w)

-- Other attributes leave code, set and protection, and the unused bits are zero.
pub record Restyled (s : Styling) (w v : ℕ) : Type 0 where
  pub cell : unpacked v
      ≡ record { code = (unpacked w).code; set = (unpacked w).set; rendition = styled s (unpacked w).rendition; protected = (unpacked w).protected }
  pub unused : v < 2 ^ 14

abbrev pub Restyling : Type 0
Restyling = (s : Styling) (w : ℕ) → Restyled s w (restyled s w)

-- ---- tabs

-- a column of the page
pub record Column (c : ℕ) : Type 0 where
  pub low : 1 ≤ c
  pub high : c ≤ 80

-- The flags are ten bytes, as their type says; what changes them leaves ten.
abbrev pub Ten : Tabs → Type 0
Ten t = length t.flags ≡ 10

pub record StayTen (r : ℕ) (t : Tabs) (c : ℕ) : Type 0 where
  pub set : Ten (with_tab t c)
  pub cleared : Ten (without_tab t c)
  pub none : Ten no_tabs
  pub begun : Ten (fresh r).displays.core.tabs

abbrev pub TenBytes : Type 0
TenBytes = (r : ℕ) (t : Tabs) (c : ℕ) → Ten t → StayTen r t c

-- After HTS at column c the flag of column d is set exactly if d is c or it was set.
abbrev pub TabSet : Type 0
TabSet = (t : Tabs) (c d : ℕ) → Ten t → Column c → Column d → is_tab (with_tab t c) d ≡ (d == c || is_tab t d)

-- After TBC 0 at column c it is set exactly if d is not c and it was set.
abbrev pub TabCleared : Type 0
TabCleared = (t : Tabs) (c d : ℕ) → Ten t → Column c → Column d → is_tab (without_tab t c) d ≡ (not (d == c) && is_tab t d)

-- After TBC 3 no column's is set.
abbrev pub TabsNone : Type 0
TabsNone = (d : ℕ) → Column d → is_tab no_tabs d ≡ false

-- Fresh tabs are at 9, 17 and so on to 73, and at no other of the 80 columns.
abbrev pub TabsFresh : Type 0
TabsFresh = (r : ℕ) → tabs_up_to 80 (fresh r).displays.core.tabs ≡ 9 ∷ 17 ∷ 25 ∷ 33 ∷ 41 ∷ 49 ∷ 57 ∷ 65 ∷ 73 ∷ []

-- HT goes right, to the last column at most, where it stays; no flag is set on the way, and where it stops one is set, or it is the last column.
pub record FirstRight (t : Tabs) (c last r : ℕ) : Type 0 where
  pub right : c < last → c < r
  pub stays : c ≤ r
  pub within : r ≤ last
  pub between : (d : ℕ) → c < d → d < r → is_tab t d ≡ false
  pub stops : is_tab t r ≡ false → r ≡ last

abbrev pub TabNext : Type 0
TabNext = (t : Tabs) (c last : ℕ) → c ≤ last → FirstRight t c last (next_tab t c last)

-- ---- decimals

-- The decimal of a number: its digits give the number again, each is 30 to 39, the first is no 30 but for 0 itself, there is one at least, and
-- there are at most k exactly if the number is below 10 ^ k.
pub record Written (n : ℕ) : Type 0 where
  pub value : value_of (decimal n) ≡ n
  pub low : (k : ℕ) → k < length (decimal n) → 0x30 ≤ slice_index (decimal n) k
  pub high : (k : ℕ) → k < length (decimal n) → slice_index (decimal n) k ≤ 0x39
  pub first : 1 ≤ n → 0x31 ≤ slice_index (decimal n) 0
  pub some : 1 ≤ length (decimal n)
  pub long : (k : ℕ) → 1 ≤ k → (length (decimal n) ≤ k) ↔ (n < 10 ^ k)

abbrev pub Decimals : Type 0
Decimals = (n : ℕ) → Written n
