-- What writing a page as text leaves, by the definition's two answers: the bytes counted are the text's.
use mathlib.Core.Path.{◌≡◌, refl, sym}
use mathlib.Core.Bool.{Bool, true, false, cond}
use mathlib.Core.List.{List}
use Prim.Native.Nat.{ℕ}
use lib.Dec.{leb}
use lib.ListN.{length}
use Rattle.std.specs.Prelude.{Result, Ok, Err}
use Rattle.text.specs.declared.TooSmall.{TooSmall}
use Rattle.text.specs.Text.{page_text, written, write_as, write_gives}
use Rattle.pankholim.specs.Leaves.{WriteLeaves}

-- the bytes that a text takes, as an answer has them
abbrev taken : ℕ → Result ℕ TooSmall → ℕ
taken n (Ok m) = m
taken n (Err e) = n

module _ (p o : List ℕ) where
  taken_is : taken (length (page_text p)) (written p o).result ≡ length (page_text p)
  unfolding written
  taken_is = by_answer (leb (length (page_text p)) (length o))
    where
      by_answer : (t : Bool)
          → taken (length (page_text p)) (write_gives (cond t (Ok (length (page_text p))) (Err (record {}))) (page_text p) o).result ≡ length (page_text p)
      by_answer true = refl
      by_answer false = refl

  module _ (w : Result ℕ TooSmall) (b : List ℕ) (done : write_as w b ≡ written p o) where
    e : written p o ≡ write_as w b
    e = sym done

    pub leaves-whole : (n : ℕ) → w ≡ Ok n → WriteLeaves p o 0 b n
    leaves-whole n is = record { answer-is = rw (e, is); out-is = rw e; len_is = rw (e, is) at taken_is }
