-- What the functions that write promise: of rows, and of an edit.
use Rattle.std.specs.Prelude.{Bool, true, cond, List, ◌≡◌, ℕ, ◌*◌, ◌≤◌, length}
use Rattle.std.specs.Int.Bits.{bit_or}
use Rattle.page.specs.declared.Edit.{Edit}
use Rattle.page.specs.declared.rows.Block.{Block}
use Rattle.cells.specs.Rows.{row}
use Rattle.cells.specs.Sets.{bits_of, changed}
use Rattle.page.specs.Edits.{after, applied, Within}

-- row j of q is g j where `done` holds of j, else it is row j of p, and the bits are those of the rows that differ
pub record Redone (p q : List ℕ) (done : ℕ → Bool) (g : ℕ → List ℕ) (bits : ℕ) : Type 0 where
  pub long : length q ≡ length p
  pub rows : (j : ℕ) → row q j ≡ cond (done j) (g j) (row p j)
  pub marked : bits ≡ bits_of 64 (changed p q)

-- the same, and the bits are those that are known, with those of the rows that differ
pub record RedoneOver (p q : List ℕ) (done : ℕ → Bool) (g : ℕ → List ℕ) (known bits : ℕ) : Type 0 where
  pub redone : Redone p q done g (bits_of 64 (changed p q))
  pub marked : bits ≡ bit_or known (bits_of 64 (changed p q))

-- each row is what it is after an edit
abbrev pub Edited : Edit → List ℕ → List ℕ → ℕ → Type 0
Edited e p q bits = Redone p q (λ j. true) (after e (row p)) bits

abbrev pub EditedOver : Edit → List ℕ → List ℕ → ℕ → ℕ → Type 0
EditedOver e p q known bits = RedoneOver p q (λ j. true) (after e (row p)) known bits

-- columns a to z of rows t to e lie on the page, and each of the rows has a bit
pub record BlockFits (p : List ℕ) (t e a z : ℕ) : Type 0 where
  pub top : t ≤ e
  pub end : 80 * e ≤ length p
  pub few : e ≤ 64
  pub left : a ≤ z
  pub right : z ≤ 80

-- and so do those of a block
abbrev pub OnPage : List ℕ → Block → Type 0
OnPage p b = BlockFits p b.top b.end b.left b.right

-- an edit that stays on a page of n rows, which are not more than a u64 has bits
pub record Fits (n : ℕ) (e : Edit) (p : List ℕ) : Type 0 where
  pub long : length p ≡ 80 * n
  pub few : n ≤ 64
  pub within : Within n e

-- it is applied, and the bits are those of the rows that differ
pub record Applied (n : ℕ) (e : Edit) (p q : List ℕ) (bits : ℕ) : Type 0 where
  pub page : q ≡ applied n e p
  pub marked : bits ≡ bits_of n (changed p q)

-- it is applied, and the bits are those that are known, with those of the rows that differ
pub record AppliedOver (n : ℕ) (e : Edit) (p q : List ℕ) (known bits : ℕ) : Type 0 where
  pub page : q ≡ applied n e p
  pub marked : bits ≡ bit_or known (bits_of n (changed p q))
