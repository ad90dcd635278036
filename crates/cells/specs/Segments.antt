-- What the functions that write a segment promise.
use Rattle.std.specs.Prelude.{Bool, List, ◌≡◌, ℕ, take, drop}
use Rattle.std.proofs.Math.Seq.{paste}
use Rattle.cells.specs.Rows.{differs}

-- q is p with its n words from place `at` replaced by the first n of s, and the flag says whether one of them is another word
pub record Pasted (p q : List ℕ) (at : ℕ) (s : List ℕ) (n : ℕ) (flag : Bool) : Type 0 where
  pub page : q ≡ paste p at s n
  pub flagged : flag ≡ differs (take n (drop at p)) (take n s)
