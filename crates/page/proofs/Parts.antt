-- Each row after an edit is the row before it with one part replaced, and that part is the edit's target there.
use mathlib.Core.Path.{◌≡◌, refl, sym, ap, ◌∙◌}
use mathlib.Core.Bool.{Bool, true, false, cond, ◌&&◌}
use mathlib.Core.List.{List, [], ◌∷◌, ◌++◌, append_assoc, map}
use mathlib.Core.Logic.{◌⊎◌, inl, inr, ⊎_elim}
use Prim.Native.Nat.{ℕ, suc, ◌+◌, ◌-◌, ◌*◌, ◌≤◌, ◌<◌}
use native.Mathlib.Numerals.{add-one}
use native.Mathlib.Omega.{arith}
use lib.Dec.{eqb, leb, ltb}
use lib.ListN.{length, get_or, take, drop, set, replicate, length-take, length-drop, length-append, length-map, length-replicate}
use lib.Seq.{paste, paste-zero, length-paste, take-append-add, take_all, set_split, append_snoc}
use borrow.Author.Tests.{leb-true, ltb-true, eqb-false}
use Rattle.page.specs.declared.Edit.{Edit}
use Rattle.page.specs.declared.Edit.TheVariants.{Keep, Put, InsertCells, DeleteCells, ScrollUp, ScrollDown}
use Rattle.page.specs.declared.Edit.TheVariants.{FillRange, ChangeRange, FillRectangle, ChangeRectangle, CopyRectangle}
use Rattle.cells.specs.Cells.{blank, changed_by}
use Rattle.cells.specs.Rows.{row}
use Rattle.page.specs.Edits.{blank_row, inserted, deleted, overlaid, overlaid_from, changed_row, range_start, range_length, after, in_range, target, Within}
use Rattle.ground.proofs.ListLaws.{split-lt, paste-outside}
use Rattle.cells.proofs.RowLaws.{length-row}
use Rattle.page.proofs.Ranges.{of_range, not-in-range}

-- ---- cells that move within a row, as a paste

-- the first words of a list that begins with n of one
pub take-entered : (n w m : ℕ) (y : List ℕ) → n ≤ m → take m (replicate n w ++ y) ≡ replicate n w ++ take (m - n) y
take-entered n w m y h =
    let e : m ≡ length (replicate n w) + (m - n) = simp length-replicate (omega arith) in
    ap (λ (i : ℕ). take i (replicate n w ++ y)) e ∙ take-append-add (replicate n w) y (m - n)

module _ (x : List ℕ) (a e n : ℕ) (h : a ≤ e) (k : n ≤ e - a) where
  end : a + (e - a) ≡ e
  end = omega arith

  pub inserted-paste : (w : ℕ) → inserted x a e n w ≡ paste x a (replicate n w ++ drop a x) (e - a)
  inserted-paste w = rw (take-entered n w (e - a) (drop a x) k, end) (simp append_assoc)

  pub deleted-paste : e ≤ length x → deleted x a e n ≡ paste x a (take (e - a - n) (drop (a + n) x) ++ replicate n blank) (e - a)
  deleted-paste l =
      let m : List ℕ = take (e - a - n) (drop (a + n) x) in
      let all = take_all (e - a) (m ++ replicate n blank) (simp (length-append, length-replicate, length-take, length-drop) (omega arith)) in
      rw (all, end) (simp append_assoc)

pub set-paste : (x : List ℕ) (c w : ℕ) → c < length x → set x c w ≡ paste x c (w ∷ []) 1
set-paste x c w h = rw (set_split x c w h, add-one) (sym (append_snoc (take c x) w (drop (suc c) x)))

-- ---- the part of a row that is replaced

-- row y is row x with `count` cells from `start` replaced, and these hold all that is inside
pub record Part (x y : List ℕ) (inside : ℕ → Bool) : Type 0 where
  pub start : ℕ
  pub count : ℕ
  pub new : List ℕ
  pub fits : start + count ≤ length x
  pub enough : count ≤ length new
  pub is : y ≡ paste x start new count
  pub outside : (j : ℕ) → j < 80 → inside j ≡ false → (j < start) ⊎ (start + count ≤ j)

no_part : (x : List ℕ) (inside : ℕ → Bool) → Part x x inside
no_part x inside = record {
  start = 0;
  count = 0;
  new = [];
  fits = omega arith;
  enough = omega arith;
  is = paste-zero x 0 [];
  outside = λ j l o. inr (omega arith);
}

-- a part that is replaced under a test
if-part : (t : Bool) (x y : List ℕ) (inside : ℕ → Bool) → (t ≡ true → Part x y inside) → Part x (cond t y x) (λ j. t && inside j)
if-part true x y inside h = h refl
if-part false x y inside h = no_part x (λ j. false)

-- columns a to e of a row
cells-part : (x y s : List ℕ) (a e : ℕ) → a ≤ e → e ≤ 80 → length x ≡ 80 → e - a ≤ length s → y ≡ paste x a s (e - a) → Part x y (in_range a e)
cells-part x y s a e h k lx ls is = record {
  start = a;
  count = e - a;
  new = s;
  fits = omega arith;
  enough = ls;
  is = is;
  outside = λ j l o. ⊎_elim inl (λ b. inr (omega arith)) (not-in-range a e j o);
}

-- the cells of a run that lie in row k
range-part : (x s : List ℕ) (a z k : ℕ) → a ≤ z → length x ≡ 80 → range_length a z k ≤ length s → Part x (paste x (range_start a k) s (range_length a z k))
    (λ j. in_range a z (80 * k + j))
range-part x s a z k h lx ls = record {
  start = range_start a k;
  count = range_length a z k;
  new = s;
  fits = omega arith;
  enough = ls;
  is = refl;
  outside = λ j l o. ⊎_elim (λ b. inl (omega arith)) (λ b. inr (omega arith)) (not-in-range a z (80 * k + j) o);
}

not-column : (j c : ℕ) → eqb j c ≡ false → (j < c) ⊎ (c + 1 ≤ j)
not-column j c e = let ne = eqb-false j c e in ⊎_elim inl (λ b. inr (omega arith)) (split-lt j c)

-- the row that a scroll takes is a row
source_row : (p : List ℕ) (t : Bool) (k : ℕ) → (t ≡ true → 80 * k + 80 ≤ length p) → length (cond t (row p k) blank_row) ≡ 80
source_row p true k h = length-row p k (h refl)
source_row p false k h = length-replicate 80 blank

module _ (n : ℕ) (p : List ℕ) (hp : length p ≡ 80 * n) (k : ℕ) (hk : k < n) where
  long : length (row p k) ≡ 80
  long = length-row p k (omega arith)

  pub part : (e : Edit) → Within n e → Part (row p k) (after e (row p) k) (target e k)
  part Keep w = no_part (row p k) (λ j. false)
  part (Put r c v) w = if-part (eqb k r) (row p k) (set (row p k) c v) (λ j. eqb j c) (λ t. record {
    start = c;
    count = 1;
    new = v ∷ [];
    fits = let l = long in omega arith;
    enough = omega arith;
    is = set-paste (row p k) c v (let l = long in omega arith);
    outside = λ j l o. not-column j c o;
  })
  part (InsertCells r c e m v) w = if-part (eqb k r) (row p k) (inserted (row p k) c e m v) (in_range c e) (λ t.
      let l = long in
      cells-part (row p k) _ (replicate m v ++ drop c (row p k)) c e (omega arith) (omega arith) l
      (simp (length-append, length-replicate, length-drop) (omega arith))
      (inserted-paste (row p k) c e m (omega arith) (omega arith) v))
  part (DeleteCells r c e m) w = if-part (eqb k r) (row p k) (deleted (row p k) c e m) (in_range c e) (λ t.
      let l = long in
      cells-part (row p k) _ (take (e - c - m) (drop (c + m) (row p k)) ++ replicate m blank) c e (omega arith) (omega arith) l
      (simp (length-append, length-replicate, length-take, length-drop) (omega arith))
      (deleted-paste (row p k) c e m (omega arith) (omega arith) (omega arith)))
  part (ScrollUp t e a z m) w = if-part (in_range t e k) (row p k) (overlaid (row p k) a z (cond (ltb (k + m) e) (row p (k + m)) blank_row)) (in_range a z) (λ b.
      let l = source_row p (ltb (k + m) e) (k + m) (λ s. let l = ltb-true (k + m) e s in omega arith) in
      cells-part (row p k) _ (drop a (cond (ltb (k + m) e) (row p (k + m)) blank_row)) a z (omega arith) (omega arith) long (simp length-drop (omega arith))
      refl)
  part (ScrollDown t e a z m) w = if-part (in_range t e k) (row p k) (overlaid (row p k) a z (cond (leb (t + m) k) (row p (k - m)) blank_row)) (in_range a z)
      (λ b.
      let l = source_row p (leb (t + m) k) (k - m) (λ s. let l = leb-true (t + m) k s in omega arith) in
      cells-part (row p k) _ (drop a (cond (leb (t + m) k) (row p (k - m)) blank_row)) a z (omega arith) (omega arith) long (simp length-drop (omega arith))
      refl)
  part (FillRange a z v) w = range-part (row p k) (replicate (range_length a z k) v) a z k (omega arith) long (simp length-replicate (omega arith))
  part (ChangeRange a z m) w =
      let l = long in
      range-part (row p k) (map (changed_by m) (drop (range_start a k) (row p k))) a z k (omega arith) l (simp (length-map, length-drop) (omega arith))
  part (FillRectangle t e a z v) w = if-part (in_range t e k) (row p k) (overlaid (row p k) a z (replicate 80 v)) (in_range a z) (λ b.
      cells-part (row p k) _ (drop a (replicate 80 v)) a z (omega arith) (omega arith) long (simp (length-drop, length-replicate) (omega arith)) refl)
  part (ChangeRectangle t e a z m) w = if-part (in_range t e k) (row p k) (changed_row m (row p k) a z) (in_range a z) (λ b.
      let l = long in
      cells-part (row p k) _ (map (changed_by m) (drop a (row p k))) a z (omega arith) (omega arith) l (simp (length-map, length-drop) (omega arith)) refl)
  part (CopyRectangle t e a z r c) w = if-part (in_range t e k) (row p k) (overlaid_from (row p k) a z (row p (k - t + r)) c) (in_range a z) (λ b.
      let i = of_range t e k b in
      let l = length-row p (k - t + r) (omega arith) in
      cells-part (row p k) _ (drop c (row p (k - t + r))) a z (omega arith) (omega arith) long (simp length-drop (omega arith)) refl)

-- each row after an edit that stays on the page is a row
pub length-after : (n : ℕ) (e : Edit) (p : List ℕ) → length p ≡ 80 * n → Within n e → (k : ℕ) → k < n → length (after e (row p) k) ≡ 80
length-after n e p hp w k hk =
    let P = part n p hp k hk e w in
    ap length P.is ∙ length-paste (row p k) P.start P.new P.count P.fits P.enough ∙ length-row p k (omega arith)

-- and a cell outside the target is what it was
pub after-outside : (n : ℕ) (e : Edit) (p : List ℕ) → length p ≡ 80 * n → Within n e → (k : ℕ) → k < n → (j : ℕ) → j < 80 → target e k j ≡ false
    → get_or (after e (row p) k) j 0 ≡ get_or (row p k) j 0
after-outside n e p hp w k hk j hj o =
    let P = part n p hp k hk e w in
    ap (λ (l : List ℕ). get_or l j 0) P.is ∙ paste-outside (row p k) P.start P.new P.count P.fits P.enough j (P.outside j hj o)
