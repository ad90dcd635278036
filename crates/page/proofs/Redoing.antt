-- Rows that are made anew, one or many, in any order: by one paste, and by one change after another. Loops upward and downward are the same to these laws.
use mathlib.Core.Path.{◌≡◌, refl, sym, ap, ap₂, subst, ◌∙◌}
use mathlib.Core.Bool.{Bool, true, false, cond}
use mathlib.Core.List.{List}
use mathlib.Core.Logic.{◌⊎◌, inl, inr}
use Prim.Native.Nat.{ℕ, ◌+◌, ◌-◌, ◌*◌, ◌^◌, ◌≤◌}
use native.Mathlib.Omega.{arith}
use lib.Dec.{eqb}
use lib.Bits.{bit_or}
use lib.ListN.{length, take, drop, length-drop}
use lib.Seq.{paste}
use borrow.Author.Tests.{eqb-true, eqb-false}
use Rattle.cells.specs.Cells.{bit}
use Rattle.cells.specs.Rows.{row, differs}
use Rattle.page.specs.declared.Edit.{Edit}
use Rattle.page.specs.declared.Edit.TheVariants.{Keep}
use Rattle.page.specs.Edits.{overlaid_from}
use Rattle.cells.specs.Segments.{Pasted}
use Rattle.page.specs.Writes.{Redone, Edited, BlockFits, Fits, Applied}
use Rattle.ground.proofs.TestLaws.{either}
use Rattle.cells.proofs.Differing.{paste-ext, differs-paste}
use Rattle.page.proofs.EditLaws.{applied-is}
use Rattle.cells.proofs.RowParts.{part-of-row, kept-long, row-others, row-pasted}
use Rattle.cells.proofs.RowLaws.{length-row}
use Rattle.cells.proofs.ChangeLaws.{changed-none, changed-one, changed-join, changed-more}

-- ---- a paste within one row

-- a row that a paste lies in is made anew, and its bit says whether it differs
pub redone-part : {p q : List ℕ} {k a e at : ℕ} {s : List ℕ} {flag : Bool} {bits : ℕ} → BlockFits p k (k + 1) a e → e - a ≤ length s → at ≡ 80 * k + a
    → Pasted p q at s (e - a) flag
    → bits ≡ bit flag * 2 ^ k → (g : ℕ → List ℕ) → paste (row p k) a s (e - a) ≡ g k → Redone p q (λ j. eqb j k) g bits
redone-part {p} {q} {k} {a} {e} {at} {s} {flag} B hs place P' eb g eg =
    let P : Pasted p q (80 * k + a) s (e - a) flag = subst (λ (i : ℕ). Pasted p q i s (e - a) flag) place P' in
    let h : a + (e - a) ≤ 80 = omega arith in
    let hp : 80 * k + 80 ≤ length p = omega arith in
    let lx : length (row p k) ≡ 80 = length-row p k hp in
    let same : row q k ≡ paste (row p k) a s (e - a) = ap (λ (l : List ℕ). row l k) P.page ∙ row-pasted p k a s (e - a) h hp hs in
    let others : (j : ℕ) → (j ≡ k → ⊥) → row q j ≡ row p j = λ j ne. ap (λ (l : List ℕ). row l j) P.page ∙ row-others p k a s (e - a) h hp hs j ne in
    record {
      long = ap length P.page ∙ kept-long p k a s (e - a) h hp hs;
      rows = λ j. either (λ x. row q j ≡ x) (eqb j k) (λ i. rw (eqb-true j k i) (same ∙ eg)) (λ ne. others j (eqb-false j k ne));
      marked = eb ∙ sym (changed-one 64 p q k flag (omega arith)
          (ap (differs (row p k)) same ∙ differs-paste (row p k) a s (e - a) (omega arith) hs ∙ ap (λ (l : List ℕ). differs l (take (e - a) s))
          (part-of-row p k a (e - a) h) ∙ sym P.flagged)
          others);
    }

-- and so is a row that takes columns of another, from column c on
pub redone-move : {p q : List ℕ} {k a e at from : ℕ} {flag : Bool} {bits : ℕ} (j c : ℕ) → BlockFits p k (k + 1) a e → 80 * (j + 1) ≤ length p
    → c + (e - a) ≤ 80 → at ≡ 80 * k + a → from ≡ 80 * j + c
    → Pasted p q at (drop from p) (e - a) flag → bits ≡ bit flag * 2 ^ k
    → Redone p q (λ i. eqb i k) (λ i. overlaid_from (row p i) a e (row p j) c) bits
redone-move {p} {q} {k} {a} {e} {at} {from} {flag} j c B h l place source P eb =
    redone-part B (simp length-drop (omega arith)) place P eb (λ i. overlaid_from (row p i) a e (row p j) c)
    (paste-ext (row p k) a (drop from p) (drop c (row p j)) (e - a)
    (ap (λ (i : ℕ). take (e - a) (drop i p)) source ∙ sym (part-of-row p j c (e - a) (omega arith))))

-- ---- one change after another

pub redone-none : (p : List ℕ) (done : ℕ → Bool) (g : ℕ → List ℕ) → ((j : ℕ) → done j ≡ false) → Redone p p done g 0
redone-none p done g h = record { long = refl; rows = λ j. rw (h j); marked = sym (changed-none 64 p) }

module _ {p q : List ℕ} {done : ℕ → Bool} {g : ℕ → List ℕ} {bits : ℕ} (R : Redone p q done g bits) where
  -- a row that is not done is what it was
  pub redone-old : (j : ℕ) → done j ≡ false → row q j ≡ row p j
  redone-old j e = R.rows j ∙ rw e

  -- what is done may be said in other words
  pub redone-as : (done' : ℕ → Bool) (g' : ℕ → List ℕ) → ((j : ℕ) → cond (done j) (g j) (row p j) ≡ cond (done' j) (g' j) (row p j)) → Redone p q done' g' bits
  redone-as done' g' h = record { long = R.long; rows = λ j. R.rows j ∙ h j; marked = R.marked }

  -- a change of other rows after it
  pub redone-join : {r : List ℕ} {more : ℕ → Bool} {f : ℕ → List ℕ} {bits' : ℕ} → Redone q r more f bits' → ((j : ℕ) → more j ≡ true → done j ≡ false)
      → (all : ℕ → Bool) (h : ℕ → List ℕ) → ((j : ℕ) → cond (more j) (f j) (cond (done j) (g j) (row p j)) ≡ cond (all j) (h j) (row p j))
      → Redone p r all h (bit_or bits bits')
  redone-join {r} {more} {f} {bits'} S apart all h is = record {
    long = S.long ∙ R.long;
    rows = λ j. S.rows j ∙ ap (λ (x : List ℕ). cond (more j) (f j) x) (R.rows j) ∙ is j;
    marked = ap₂ bit_or R.marked S.marked ∙ changed-join 64 p q r (λ j l. one_of j (more j) refl);
  }
    where
      one_of : (j : ℕ) (t : Bool) → more j ≡ t → (row p j ≡ row q j) ⊎ (row q j ≡ row r j)
      one_of j true e = inl (sym (redone-old j (apart j e)))
      one_of j false e = inr (sym (S.rows j ∙ rw e))

-- ---- an edit that is done

pub keep-edited : (p : List ℕ) → Edited Keep p p 0
keep-edited p = record { long = refl; rows = λ j. refl; marked = sym (changed-none 64 p) }

pub edited-applied : {n : ℕ} {e d : Edit} {p q : List ℕ} {bits : ℕ} → Fits n e p → e ≡ d → Edited d p q bits → Applied n e p q bits
edited-applied {n} {e} {d} {p} {q} {bits} F i E' =
    let E : Edited e p q bits = subst (λ (x : Edit). Edited x p q bits) (sym i) E' in
    record {
      page = applied-is n e p q F.long (E.long ∙ F.long) (λ j l. E.rows j);
      marked = E.marked ∙ changed-more n 64 p q F.few (omega arith);
    }
