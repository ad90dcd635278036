-- The page as text (SCOPE 10): a line for each row, trailing U+0020 off, each closed by 0A, in UTF-8.
use Rattle.std.specs.Prelude.{cond, codes, Result, Ok, Err, ◌||◌, List, [], ◌∷◌, ◌++◌, map, ℕ, ◌+◌, ◌-◌, ◌/◌, ◌%◌, eqb, leb, ltb, length, get_or}
use Rattle.std.proofs.lemmas.List.Edits.{sets}
use Rattle.cells.specs.declared.CharSet.{CharSet}
use Rattle.cells.specs.declared.CharSet.TheVariants.{Ascii, SpecialGraphics, Supplemental, Latin1}
use Rattle.cells.specs.Cells.{unpacked}
use Rattle.cells.specs.Rows.{rows_of}
use Rattle.text.specs.declared.TooSmall.{TooSmall}

-- ---- the sign of a cell, as a code point

-- Special Graphics codes 5F to 7E: the line-drawing signs
abbrev pub line_drawing : List ℕ
line_drawing =
    0x00A0 ∷ 0x25C6 ∷ 0x2592 ∷ 0x2409 ∷ 0x240C ∷ 0x240D ∷ 0x240A ∷ 0x00B0
    ∷ 0x00B1 ∷ 0x2424 ∷ 0x240B ∷ 0x2518 ∷ 0x2510 ∷ 0x250C ∷ 0x2514 ∷ 0x253C
    ∷ 0x23BA ∷ 0x23BB ∷ 0x2500 ∷ 0x23BC ∷ 0x23BD ∷ 0x251C ∷ 0x2524 ∷ 0x2534
    ∷ 0x252C ∷ 0x2502 ∷ 0x2264 ∷ 0x2265 ∷ 0x03C0 ∷ 0x2260 ∷ 0x00A3 ∷ 0x00B7 ∷ []

-- "?": Supplemental, and the control codes of ASCII and Special Graphics, which no byte puts into a cell
abbrev pub unshown : ℕ
unshown = 0x3F

-- a code of ASCII, or one of Special Graphics below 5F: itself, or "?" for a control code
abbrev pub shown_code : ℕ → ℕ
shown_code x = cond (ltb x 0x20 || eqb x 0x7F) unshown x

abbrev pub graphic_sign : ℕ → ℕ
graphic_sign x = cond (ltb x 0x5F || eqb x 0x7F) (shown_code x) (get_or line_drawing (x - 0x5F) 0)

abbrev pub sign_in : CharSet → ℕ → ℕ
sign_in Ascii x = shown_code x
sign_in SpecialGraphics x = graphic_sign x
sign_in Supplemental x = unshown
sign_in Latin1 x = 0x80 + x

-- code 1A, which SUB puts, is U+2426
unfoldable pub sign : ℕ → ℕ
sign w =
    let c = unpacked w in
    cond (eqb c.code 0x1A) 0x2426 (sign_in c.set c.code)

-- ---- UTF-8, of the code points below U+10000

abbrev pub utf8 : ℕ → List ℕ
utf8 x =
    cond (ltb x 0x80) (x ∷ [])
    (cond (ltb x 0x800) ((0xC0 + x / 64) ∷ (0x80 + x % 64) ∷ [])
    ((0xE0 + x / 4096) ∷ (0x80 + x / 64 % 64) ∷ (0x80 + x % 64) ∷ []))

-- ---- lines

-- a code point before the rest of a line, of which nothing is left where it was all spaces
abbrev pub before : ℕ → List ℕ → List ℕ
before x [] = cond (eqb x 0x20) [] (x ∷ [])
before x (y ∷ ys) = x ∷ y ∷ ys

-- without the spaces at the end
unfoldable pub trimmed : List ℕ → List ℕ
trimmed [] = []
trimmed (x ∷ xs) = before x (trimmed xs)

unfoldable pub encoded : List ℕ → List ℕ
encoded [] = []
encoded (x ∷ xs) = utf8 x ++ encoded xs

abbrev pub line : List ℕ → List ℕ
line r = encoded (trimmed (map sign r)) ++ (0x0A ∷ [])

unfoldable pub lines : List (List ℕ) → List ℕ
lines [] = []
lines (r ∷ rs) = line r ++ lines rs

-- the text of a page of n rows
unfoldable pub text_of : ℕ → List ℕ → List ℕ
text_of n p = lines (rows_of n p)

-- how many lines a text has: its bytes 0A
unfoldable pub line_count : List ℕ → ℕ
line_count [] = 0
line_count (x ∷ xs) = cond (eqb x 0x0A) 1 0 + line_count xs

-- the text of a page of any length: that of its whole rows
abbrev pub page_text : List ℕ → List ℕ
page_text p = text_of (length p / 80) p

-- ---- writing it into a buffer

-- a buffer that is too small, in words
abbrev pub too_small_words : List ℕ
too_small_words = codes "the buffer is too small for the text"

-- the scope's numbers
abbrev pub written_number : Result ℕ TooSmall → ℕ
written_number (Ok n) = 0
written_number (Err e) = 3

-- the answer's number, the result, and what is left in the buffer
pub record Write : Type 0 where
  pub number : ℕ
  pub result : Result ℕ TooSmall
  pub buffer : List ℕ

-- given exactly when
abbrev pub write_answer : List ℕ → List ℕ → Result ℕ TooSmall
write_answer t o = cond (leb (length t) (length o)) (Ok (length t)) (Err (record {}))

abbrev pub write_as : Result ℕ TooSmall → List ℕ → Write
write_as w o = record { number = written_number w; result = w; buffer = o }

-- returned and left
abbrev pub write_gives : Result ℕ TooSmall → List ℕ → List ℕ → Write
write_gives (Ok n) t o = write_as (Ok n) (sets o 0 t)
write_gives (Err e) t o = write_as (Err e) o

-- a page and a buffer
unfoldable pub written : List ℕ → List ℕ → Write
written p o = let t = page_text p in write_gives (write_answer t o) t o
