-- Bytes from 20 to 7E: the places of a list, all tested; and their words where GL is ASCII.
use Rattle.std.proofs.Common.{◌≡◌, ℕ, zero, suc, ◌+◌, ◌%◌, ◌<◌, ◌≤◌, Bool, true, false, cond, ◌&&◌, eqb, List, [], ◌∷◌, length, get_or, drop, add-one, arith, drop_of_length-le, drop-cons, lt-ltb}
use mathlib.Core.Bool.{and_assoc, and-true}
use Rattle.ground.specs.Tests.{between}
use Rattle.ground.proofs.TestLaws.{and_left, and_right}
use Rattle.cells.specs.declared.CharSet.TheVariants.{Ascii}
use Rattle.cells.specs.Cells.{packed}
use Rattle.device.specs.Charsets.{left_set}
use Rattle.core_state.specs.declared.Core.{Core}
use Rattle.core_state.specs.Glyphs.{glyph}
use Rattle.core_state.specs.Pens.{flag_bits}
use Rattle.inplace.specs.InPlace.{all_ascii}

module _ (input : List ℕ) where
  pub one_more : (all : Bool) (i : ℕ) → i < length input
      → ((all && between 0x20 (get_or input i 0) 0x7E) && all_ascii (drop (i + 1) input)) ≡ (all && all_ascii (drop i input))
  one_more all i h = rw (and_assoc, drop-cons input i 0, add-one i)

  pub no_more : (all : Bool) (i : ℕ) → length input ≤ i → (all && all_ascii (drop i input)) ≡ all
  no_more all i h = rw (drop_of_length-le input {i = i} h) (and-true all)

pub ascii-at : (input : List ℕ) → all_ascii input ≡ true → (j : ℕ) → j < length input → between 0x20 (get_or input j 0) 0x7E ≡ true
ascii-at [] e j h = absurd (omega arith)
ascii-at (b ∷ bs) e zero h = and_left (between 0x20 b 0x7E) (all_ascii bs) e
ascii-at (b ∷ bs) e (suc j) h = ascii-at bs (and_right (between 0x20 b 0x7E) (all_ascii bs) e) j (omega arith)

pub ascii-glyph : (c : Core) (b : ℕ) → left_set c.sets c.shift ≡ Ascii → b ≤ 0x7E → flag_bits c.rendition c.protected + b ≡ glyph c b
unfolding packed
ascii-glyph c b e h = rw (lt-ltb b 0x80 (omega arith), e) (go (eqb b 0x20))
  where
    go : (x : Bool) → flag_bits c.rendition c.protected + b
        ≡ packed (record { code = b % 128; set = cond x Ascii Ascii; rendition = c.rendition; protected = c.protected })
    go true = omega arith
    go false = omega arith
