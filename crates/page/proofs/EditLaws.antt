-- What holds of every edit that stays on the page.
use mathlib.Core.Path.{◌≡◌, refl, sym, ap, ◌∙◌}
use mathlib.Core.Bool.{true, false}
use mathlib.Core.List.{List}
use Prim.Native.Nat.{ℕ, ◌+◌, ◌*◌, ◌<◌}
use native.Mathlib.Omega.{arith}
use lib.ListN.{length, get_or}
use Rattle.page.specs.declared.Edit.{Edit}
use Rattle.page.specs.declared.Edit.TheVariants.{Keep}
use Rattle.cells.specs.Rows.{row, joined}
use Rattle.cells.specs.Sets.{changed}
use Rattle.page.specs.Edits.{after, applied, Within, Faithful}
use Rattle.cells.proofs.Differing.{differs_none, differs-some, differs-apart}
use Rattle.page.proofs.Parts.{length-after, after-outside}
use Rattle.cells.proofs.RowLaws.{joined-ext, joined-rows, length-joined, row-joined, rows_are, length-row, cell-of-row}

-- ---- a page after an edit, by its rows

pub applied-def : (n : ℕ) (e : Edit) (p : List ℕ) → length p ≡ 80 * n → applied n e p ≡ joined n (after e (row p))
unfolding applied
applied-def n e p h = ap (λ (f : ℕ → List ℕ). joined n (after e f)) (rows_are n p h)

-- a page whose rows are those after an edit is the page after the edit
pub applied-is : (n : ℕ) (e : Edit) (p q : List ℕ) → length p ≡ 80 * n → length q ≡ 80 * n → ((k : ℕ) → k < n → row q k ≡ after e (row p) k)
    → q ≡ applied n e p
applied-is n e p q hp h rows = sym (joined-rows n q h) ∙ joined-ext n (row q) (after e (row p)) rows ∙ sym (applied-def n e p hp)

-- and the page after an edit has those rows
pub applied-row : (n : ℕ) (e : Edit) (p : List ℕ) → length p ≡ 80 * n → Within n e → (k : ℕ) → k < n → row (applied n e p) k ≡ after e (row p) k
applied-row n e p hp w k l = ap (λ (q : List ℕ). row q k) (applied-def n e p hp) ∙ row-joined n (after e (row p)) (length-after n e p hp w) k l

pub keep-applied : (n : ℕ) (p : List ℕ) → length p ≡ 80 * n → applied n Keep p ≡ p
keep-applied n p h = sym (applied-is n Keep p p h h (λ k l. refl))

pub length-applied : (n : ℕ) (e : Edit) (p : List ℕ) → length p ≡ 80 * n → Within n e → length (applied n e p) ≡ 80 * n
length-applied n e p hp w = ap length (applied-def n e p hp) ∙ length-joined n (after e (row p)) (length-after n e p hp w)

-- ---- the rows that differ

module _ (n : ℕ) (p q : List ℕ) (k : ℕ) (hp : length p ≡ 80 * n) (hq : length q ≡ 80 * n) (hk : k < n) where
  both-rows : length (row p k) ≡ length (row q k)
  both-rows = length-row p k (omega arith) ∙ sym (length-row q k (omega arith))

  -- a row that is not reported is as it was
  pub unchanged : changed p q k ≡ false → row p k ≡ row q k
  unchanged e = differs_none (row p k) (row q k) both-rows e

  -- one that is has a cell with another word
  pub changed-cell : changed p q k ≡ true → (c : ℕ) × (c < 80) × (get_or p (80 * k + c) 0 ≡ get_or q (80 * k + c) 0 → ⊥)
  changed-cell e =
      let d = differs-some (row p k) (row q k) both-rows e in
      let l = length-row p k (omega arith) in
      let h : d.place < 80 = omega arith in
      (d.place, h, λ s. d.another (cell-of-row p k d.place h ∙ s ∙ sym (cell-of-row q k d.place h)))

  -- and each row that has such a cell is reported
  pub cell-changed : (c : ℕ) → c < 80 → (get_or p (80 * k + c) 0 ≡ get_or q (80 * k + c) 0 → ⊥) → changed p q k ≡ true
  cell-changed c h ne =
      differs-apart (row p k) (row q k) both-rows c (λ s. ne (sym (cell-of-row p k c h) ∙ s ∙ cell-of-row q k c h))

-- ---- S8

-- Every edit that stays on the page keeps the page's length and each cell outside its target, and the rows reported are exactly those where some cell's
-- word differs.
pub every-edit : (n : ℕ) (e : Edit) (p : List ℕ) → length p ≡ 80 * n → Within n e → Faithful n e p (applied n e p)
every-edit n e p hp w =
    let hq : length (applied n e p) ≡ 80 * n = length-applied n e p hp w in
    record {
      long = hq ∙ sym hp;
      outside = λ k c hk hc o.
          sym (cell-of-row (applied n e p) k c hc)
          ∙ ap (λ (r : List ℕ). get_or r c 0) (applied-row n e p hp w k hk)
          ∙ after-outside n e p hp w k hk c hc o
          ∙ cell-of-row p k c hc;
      reported = λ k hk. changed-cell n p (applied n e p) k hp hq hk;
      differing = λ k c hk. cell-changed n p (applied n e p) k hp hq hk c;
    }
