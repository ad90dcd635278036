-- Characters in a row: which bytes are characters of every set, and the words that they put.
use Rattle.std.specs.Prelude.{◌≡◌, Bool, true, cond, ◌||◌, List, map, ℕ, ◌+◌, ◌%◌, ◌≤◌, ◌<◌, eqb, ltb, get_or, drop}
use Rattle.ground.specs.Tests.{between}
use Rattle.cells.specs.declared.runs.Pen.{Pen}
use Rattle.cells.specs.declared.runs.Put.{Put}
use Rattle.cells.specs.Segments.{Pasted}

-- a character of every set
abbrev pub is_character : ℕ → Bool
is_character b = between 0x20 b 0x7E || between 0xA1 b 0xFE

-- the word that a pen puts for a byte
abbrev pub pen_word : Pen → ℕ → ℕ
pen_word n b = cond (eqb b 0x20) n.space (cond (ltb b 0x80) (n.left + b % 128) (n.right + b % 128))

-- a pen whose words fit 16 bits, and are alike in GL from `low` on
pub record PenFits (n : Pen) : Type 0 where
  pub left : n.left ≤ 65280
  pub right : n.right ≤ 65280
  pub low : 0x20 ≤ n.low
  pub alike : n.low ≤ 0x20 → n.space ≡ n.left + 0x20

-- the n bytes from a place on are from `low` to 7E
abbrev pub Plain : List ℕ → ℕ → ℕ → ℕ → Type 0
Plain input from n low = (j : ℕ) → j < n → between low (get_or input (from + j) 0) 0x7E ≡ true

-- the first n words are those of the bytes from a place on, each with `base` added
abbrev pub BlockWords : List ℕ → List ℕ → ℕ → ℕ → ℕ → Type 0
BlockWords words input from n base = (j : ℕ) → j < n → get_or words j 0 ≡ base + get_or input (from + j) 0

-- `count` bytes from `from` on are characters and were put from `to` on, and the flag says whether a cell changed
pub record PutSome (p q : List ℕ) (to : ℕ) (input : List ℕ) (from : ℕ) (n : Pen) (count : ℕ) (flag : Bool) : Type 0 where
  pub characters : (j : ℕ) → j < count → is_character (get_or input (from + j) 0) ≡ true
  pub pasted : Pasted p q to (map (pen_word n) (drop from input)) count flag

-- the same of at most `limit` bytes, and of one at least if the first is a character
pub record PutCharacters (p q : List ℕ) (to limit : ℕ) (input : List ℕ) (from : ℕ) (n : Pen) (r : Put) : Type 0 where
  pub most : r.count ≤ limit
  pub characters : (j : ℕ) → j < r.count → is_character (get_or input (from + j) 0) ≡ true
  pub pasted : Pasted p q to (map (pen_word n) (drop from input)) r.count r.changed
  pub some : 1 ≤ limit → is_character (get_or input from 0) ≡ true → 1 ≤ r.count
