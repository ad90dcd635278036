-- Edits of one row: cells that move within it and those that enter lie side by side, so together they are one change of the row.
use mathlib.Core.Path.{◌≡◌, refl, sym, ap, subst, ◌∙◌}
use mathlib.Core.Bool.{Bool, true, not, ◌||◌, or-false}
use mathlib.Core.List.{List, [], ◌∷◌, ◌++◌}
use mathlib.Core.Logic.{◌⊎◌, inl, inr, ⊎_elim}
use Prim.Native.Nat.{ℕ, ◌+◌, ◌-◌, ◌*◌, ◌^◌, ◌≤◌, ◌<◌}
use native.Mathlib.Omega.{arith}
use lib.Dec.{eqb}
use lib.ListN.{length, get_or, take, drop, set, replicate, length-drop, length-append, length-replicate}
use lib.Seq.{paste, length-take-le, drop-cons, get_or-take}
use Rattle.cells.specs.Cells.{bit, blank}
use Rattle.cells.specs.Rows.{row, differs}
use Rattle.page.specs.declared.Edit.TheVariants.{Put, InsertCells, DeleteCells}
use Rattle.page.specs.Edits.{inserted, deleted, after}
use Rattle.cells.specs.Segments.{Pasted}
use Rattle.page.specs.Writes.{Edited, BlockFits}
use Rattle.cells.proofs.RowLaws.{length-row}
use Rattle.page.proofs.Parts.{take-entered, set-paste, inserted-paste, deleted-paste}
use Rattle.cells.proofs.Differing.{paste-ext}
use Rattle.cells.proofs.RowParts.{part-of-row}
use Rattle.page.proofs.Redoing.{redone-part, redone-as}
use Rattle.cells.proofs.Beside.{both_long, first, second, neither, both-flagged, side_by_side}

-- ---- cells that move within a row

module _ {p q r : List ℕ} {k c e n at : ℕ} {flag flag' : Bool} {bits : ℕ} (B : BlockFits p k (k + 1) c e) (h : n ≤ e - c) (place : at ≡ 80 * k + c)
    (eb : bits ≡ bit (flag || flag') * 2 ^ k) where
  -- they go right, and then a word enters on the left
  pub insert-edited : (w : ℕ) → Pasted p q (at + n) (drop (at) p) (e - c - n) flag → Pasted q r (at) (replicate n w) n flag'
      → Edited (InsertCells k c e n w) p r bits
  insert-edited w P Q =
      let x : List ℕ = row p k in
      let lp : length (replicate n w) ≡ n = length-replicate n w in
      let ld : length (drop (at) p) ≡ length p - (at) = length-drop (at) p in
      let h1 : at + n + (e - c - n) ≤ length p = omega arith in
      let s1 : e - c - n ≤ length (drop (at) p) = omega arith in
      let h2 : at + n ≤ length p = omega arith in
      let s2 : n ≤ length (replicate n w) = omega arith in
      let apart : (at + n + (e - c - n) ≤ at) ⊎ (at + n ≤ at + n) = inr (omega arith) in
      let all : e - c ≡ n + (e - c - n) = omega arith in
      let parts : Pasted p r at (replicate n w ++ drop at p) (e - c) (flag || flag') =
      side_by_side p r at n (e - c - n) (e - c) (replicate n w) (drop at p) (flag || flag') all lp s1 (omega arith) (both_long P Q h1 s1 h2 s2 apart)
      (second P Q h1 s1 h2 s2 apart) (first P Q h1 s1 h2 s2 apart)
      (λ i. ⊎_elim
      (λ (b : i < at). neither P Q h1 s1 h2 s2 apart i (inl (omega arith)) (inl b))
      (λ (b : at + (e - c) ≤ i). neither P Q h1 s1 h2 s2 apart i (inr (omega arith)) (inr (omega arith))))
      (both-flagged P Q h1 s1 h2 s2 apart) in
      redone-as
      (redone-part B (simp (length-append, length-replicate) (omega arith)) place parts eb (λ j. inserted (row p j) c e n w)
      (paste-ext x c (replicate n w ++ drop at p) (replicate n w ++ drop c x) (e - c)
      (rw (take-entered n w (e - c) (drop at p) h, take-entered n w (e - c) (drop c x) h, place, part-of-row p k c (e - c - n) (omega arith)))
      ∙ sym (inserted-paste x c e n (omega arith) h w)))
      (λ j. true) (after (InsertCells k c e n w) (row p)) (λ j. refl)

  -- they go left, and then blanks enter on the right
  pub delete-edited : Pasted p q (at) (drop (at + n) p) (e - c - n) flag → Pasted q r (at + (e - c - n)) (replicate n blank) n flag'
      → Edited (DeleteCells k c e n) p r bits
  delete-edited P Q =
      let m : ℕ = e - c - n in
      let x : List ℕ = row p k in
      let lx : length (row p k) ≡ 80 = length-row p k (omega arith) in
      let u : List ℕ = take (e - c - n) (drop (at + n) p) in
      let ld : length (drop (at + n) p) ≡ length p - (at + n) = length-drop (at + n) p in
      let s1 : e - c - n ≤ length (drop (at + n) p) = omega arith in
      let lu : length (take (e - c - n) (drop (at + n) p)) ≡ e - c - n = length-take-le m (drop (at + n) p) s1 in
      let lb : length (replicate n blank) ≡ n = length-replicate n blank in
      let h1 : at + (e - c - n) ≤ length p = omega arith in
      let h2 : at + (e - c - n) + n ≤ length p = omega arith in
      let s2 : n ≤ length (replicate n blank) = omega arith in
      let apart : (at + (e - c - n) ≤ at + (e - c - n)) ⊎ (at + (e - c - n) + n ≤ at) = inl (omega arith) in
      let source : 80 * k + (c + n) ≡ at + n = omega arith in
      let parts : Pasted p r at (u ++ replicate n blank) (e - c) (flag || flag') =
      side_by_side p r at m n (e - c) u (replicate n blank) (flag || flag') (omega arith) lu s2 (omega arith) (both_long P Q h1 s1 h2 s2 apart)
      (λ j b. first P Q h1 s1 h2 s2 apart j b ∙ sym (get_or-take m (drop (at + n) p) j 0 b)) (second P Q h1 s1 h2 s2 apart)
      (λ i. ⊎_elim
      (λ (b : i < at). neither P Q h1 s1 h2 s2 apart i (inl b) (inl (omega arith)))
      (λ (b : at + (e - c) ≤ i). neither P Q h1 s1 h2 s2 apart i (inr (omega arith)) (inr (omega arith))))
      (both-flagged P Q h1 s1 h2 s2 apart) in
      redone-as
      (redone-part B (simp (length-append, length-replicate) (omega arith)) place parts eb (λ j. deleted (row p j) c e n)
      (ap (λ (l : List ℕ). paste x c (l ++ replicate n blank) (e - c))
      (sym (part-of-row p k (c + n) m (omega arith) ∙ ap (λ (i : ℕ). take m (drop i p)) source))
      ∙ sym (deleted-paste x c e n (omega arith) h (omega arith))))
      (λ j. true) (after (DeleteCells k c e n) (row p)) (λ j. refl)

-- ---- one cell

pub put-edited : {p : List ℕ} {k c at : ℕ} {bits : ℕ} (w : ℕ) → BlockFits p k (k + 1) c (c + 1) → at ≡ 80 * k + c
    → bits ≡ bit (not (eqb (get_or p (at) 0) w)) * 2 ^ k
    → Edited (Put k c w) p (set p (at) w) bits
put-edited {p} {k} {c} {at} w B place eb =
    let x : List ℕ = row p k in
    let lx : length (row p k) ≡ 80 = length-row p k (omega arith) in
    let h : at < length p = omega arith in
    let one : 1 ≡ c + 1 - c = omega arith in
    let stored : Pasted p (set p at w) at (w ∷ []) 1 (not (eqb (get_or p at 0) w)) = record {
      page = set-paste p at w h;
      flagged = sym (or-false (not (eqb (get_or p at 0) w))) ∙ ap (λ (l : List ℕ). differs (take 1 l) (w ∷ [])) (sym (drop-cons p at 0 h));
    } in
    redone-as
    (redone-part B (omega arith) place (subst (λ (n : ℕ). Pasted p (set p at w) at (w ∷ []) n (not (eqb (get_or p at 0) w))) one stored) eb
    (λ j. set (row p j) c w)
    (ap (paste x c (w ∷ [])) (sym one) ∙ sym (set-paste x c w (omega arith))))
    (λ j. true) (after (Put k c w) (row p)) (λ j. refl)
