-- Loops from the first row of a block to its last, and over a range of cells, over the rows that are known.
use mathlib.Core.Path.{◌≡◌, refl, sym, ap, ◌∙◌}
use mathlib.Core.Bool.{true}
use mathlib.Core.List.{List}
use mathlib.Core.Logic.{◌⊎◌, inr, ⊎_elim}
use Prim.Native.Nat.{ℕ, ◌+◌, ◌-◌, ◌/◌, ◌≤◌, ◌<◌}
use native.Mathlib.Omega.{arith}
use lib.Dec.{eqb}
use lib.Seq.{paste, paste-zero}
use Rattle.cells.specs.Rows.{row}
use Rattle.page.specs.Edits.{range_start, range_length, in_range}
use Rattle.page.specs.Writes.{RedoneOver}
use Rattle.ground.proofs.TestLaws.{either}
use Rattle.page.proofs.Ranges.{not-in-range}
use Rattle.page.proofs.Blocks.{block_none, block_up, block-all, block-old}
use Rattle.page.proofs.KnownRows.{over-same, over-join, over-as}

-- of rows a to e, those before k are done
abbrev pub UpwardOver : ℕ → ℕ → List ℕ → (ℕ → List ℕ) → List ℕ → ℕ → ℕ → ℕ → Type 0
UpwardOver a e p g q known bits k = (a ≤ k) × (k ≤ e) × RedoneOver p q (in_range a k) g known bits

pub over_none : (a e : ℕ) (p : List ℕ) (g : ℕ → List ℕ) (known : ℕ) → a ≤ e → UpwardOver a e p g p known known a
over_none a e p g known h = (omega arith, h, over-same (block_none p a g))

module _ {a e k : ℕ} {p q : List ℕ} {g : ℕ → List ℕ} {known bits : ℕ} (U : UpwardOver a e p g q known bits k) where
  -- row k is done, which was as before
  pub over-next : {r : List ℕ} {f : ℕ → List ℕ} {bits' : ℕ} → k < e → RedoneOver q r (λ j. eqb j k) f bits bits' → (row q k ≡ row p k → f k ≡ g k)
      → UpwardOver a e p g r known bits' (k + 1)
  over-next h S same =
      let R = U.2.redone in
      (omega arith, omega arith, over-join U.2 S.marked (block_up R S.redone (same (block-old R k (inr (omega arith)))) refl U.0))

  pub over-all : e ≤ k → RedoneOver p q (in_range a e) g known bits
  over-all h = record { redone = block-all U.2.redone refl (omega arith); marked = U.2.marked }

-- ---- a range of cells, row by row

-- row k with its cells of the run made anew: `new` gives their words, by the column where they begin, their number and the row
abbrev pub over_range : (ℕ → ℕ → List ℕ → List ℕ) → ℕ → ℕ → (ℕ → List ℕ) → ℕ → List ℕ
over_range new a z f k = paste (f k) (range_start a k) (new (range_start a k) (range_length a z k) (f k)) (range_length a z k)

abbrev pub RangeDone : (ℕ → ℕ → List ℕ → List ℕ) → ℕ → ℕ → List ℕ → List ℕ → ℕ → ℕ → ℕ → Type 0
RangeDone new a z p q known bits k = UpwardOver (a / 80) ((z + 79) / 80) p (over_range new a z (row p)) q known bits k

module _ (new : ℕ → ℕ → List ℕ → List ℕ) (a z : ℕ) {k : ℕ} {p q : List ℕ} {known bits : ℕ} (R : RangeDone new a z p q known bits k) where
  -- columns x to y of the next row are made anew
  pub range-next : {r : List ℕ} {x y bits' : ℕ} → k < (z + 79) / 80 → x ≡ range_start a k → y ≡ range_start z k
      → RedoneOver q r (λ j. eqb j k) (λ j. paste (row q j) x (new x (y - x) (row q j)) (y - x)) bits bits' → RangeDone new a z p r known bits' (k + 1)
  range-next h ex ey S = over-next R h S (λ old i. paste (old i) (ex i) (new (ex i) (ey i - ex i) (old i)) (ey i - ex i))

  -- the run touches no other row
  pub range_all : a ≤ z → (z + 79) / 80 ≤ k → RedoneOver p q (λ j. true) (over_range new a z (row p)) known bits
  range_all h l =
      over-as (over-all R l) (λ j. true) (over_range new a z (row p))
      (λ j. either (λ x. x ≡ over_range new a z (row p) j) (in_range (a / 80) ((z + 79) / 80) j) (λ _. refl)
      (λ t. off j (not-in-range (a / 80) ((z + 79) / 80) j t)))
    where
      off : (j : ℕ) → (j < a / 80) ⊎ ((z + 79) / 80 ≤ j) → row p j ≡ over_range new a z (row p) j
      off j o =
          let none : range_length a z j ≡ 0 = ⊎_elim (λ (b : j < a / 80). omega arith) (λ (b : (z + 79) / 80 ≤ j). omega arith) o in
          let s : List ℕ = new (range_start a j) (range_length a z j) (row p j) in
          paste-zero (row p j) (range_start a j) s ∙ ap (paste (row p j) (range_start a j) s) (sym none)
