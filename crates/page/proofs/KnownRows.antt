-- Rows that are known to have changed: their bits are there, whether they differ or not, so they need not be compared.
use mathlib.Core.Path.{◌≡◌, refl, sym, ap, ◌∙◌}
use mathlib.Core.Bool.{Bool, true, cond, false≢true}
use mathlib.Core.List.{List}
use mathlib.Core.Logic.{⊎_elim}
use Prim.Native.Nat.{ℕ, ◌+◌, ◌-◌, ◌*◌, ◌^◌, ◌≤◌, ◌<◌}
use native.Mathlib.Omega.{arith}
use lib.Dec.{eqb}
use lib.Bits.{bit_or, or_zero_l, or_zero_r}
use lib.ListN.{length, take, drop}
use lib.Seq.{paste}
use Rattle.ground.proofs.ListLaws.{split-eq}
use borrow.Author.Tests.{ne_eqb}
use Rattle.cells.specs.Cells.{bit}
use Rattle.cells.specs.Rows.{row, differs}
use Rattle.cells.specs.Sets.{bits_of, has_bit, changed}
use Rattle.cells.proofs.BitLaws.{bit-or-assoc, or-within}
use Rattle.cells.proofs.Differing.{paste-ext, differs-self}
use Rattle.cells.proofs.RowParts.{part-of-row}
use Rattle.page.specs.declared.Edit.{Edit}
use Rattle.page.specs.declared.Edit.TheVariants.{Keep}
use Rattle.page.specs.Edits.{overlaid_from}
use Rattle.page.specs.Writes.{Redone, RedoneOver, Edited, EditedOver, BlockFits, Fits, Applied, AppliedOver}
use Rattle.page.proofs.Redoing.{redone-part, redone-old, redone-as, keep-edited, edited-applied}

-- ---- rows that are made anew

module _ {p q : List ℕ} {done : ℕ → Bool} {g : ℕ → List ℕ} {bits : ℕ} (R : Redone p q done g bits) where
  -- with the bits of the rows that differ written out
  redone-own : Redone p q done g (bits_of 64 (changed p q))
  redone-own = record { long = R.long; rows = R.rows; marked = refl }

  -- what is compared is joined to what is known
  pub over-or : (known : ℕ) → RedoneOver p q done g known (bit_or known bits)
  over-or known = record { redone = redone-own; marked = ap (bit_or known) R.marked }

-- a row that a paste lies in is known
pub over-known : {p q : List ℕ} {k a e known : ℕ} (at : ℕ) (s : List ℕ) → BlockFits p k (k + 1) a e → e - a ≤ length s → at ≡ 80 * k + a
    → q ≡ paste p at s (e - a) → known < 2 ^ 64 → has_bit known k ≡ true → RedoneOver p q (λ j. eqb j k) (λ j. paste (row p j) a s (e - a)) known known
over-known {p} {q} {k} {a} {e} {known} at s B hs place page l is =
    record { redone = redone-own R; marked = sym (or-within 64 known (changed p q) l each) }
  where
    R : Redone p q (λ j. eqb j k) (λ j. paste (row p j) a s (e - a)) (bit (differs (take (e - a) (drop at p)) (take (e - a) s)) * 2 ^ k)
    R = redone-part B hs place (record { page = page; flagged = refl }) refl _ refl

    each : (j : ℕ) → j < 64 → changed p q j ≡ true → has_bit known j ≡ true
    each j b d =
        ⊎_elim
        (λ (i : j ≡ k). rw i is)
        (λ (ne : j ≡ k → ⊥). absurd (false≢true (sym (differs-self (row p j)) ∙ ap (differs (row p j)) (sym (redone-old R j (ne_eqb j k ne))) ∙ d)))
        (split-eq j k)

-- what is done may be said in other words
pub over-as : {p q : List ℕ} {done : ℕ → Bool} {g : ℕ → List ℕ} {known bits : ℕ} → RedoneOver p q done g known bits → (done' : ℕ → Bool) (g' : ℕ → List ℕ)
    → ((j : ℕ) → cond (done j) (g j) (row p j) ≡ cond (done' j) (g' j) (row p j)) → RedoneOver p q done' g' known bits
over-as O done' g' h = record { redone = redone-as O.redone done' g' h; marked = O.marked }

-- a whole row that takes another takes all its columns
pub over-whole : {p q : List ℕ} {known bits source : ℕ} (k j a z c : ℕ)
    → RedoneOver p q (λ i. eqb i k) (λ i. paste (row p i) 0 (drop source p) 80) known bits → source ≡ 80 * j + 0 → a ≡ 0 → z ≡ 80 → c ≡ 0
    → RedoneOver p q (λ i. eqb i k) (λ i. overlaid_from (row p i) a z (row p j) c) known bits
over-whole {p} k j a z c O es ea ez ec =
    over-as O _ _ (λ i. ap (λ (x : List ℕ). cond (eqb i k) x (row p i)) (rw (es, ea, ez, ec)
    (paste-ext (row p i) 0 (drop (80 * j + 0) p) (row p j) 80 (sym (part-of-row p j 0 80 (omega arith))))))

-- nothing differs
pub over-same : {p : List ℕ} {done : ℕ → Bool} {g : ℕ → List ℕ} {known : ℕ} → Redone p p done g 0 → RedoneOver p p done g known known
over-same {known = known} R = record { redone = redone-own R; marked = sym (or_zero_r known) ∙ ap (bit_or known) R.marked }

-- nothing is known
pub over_nothing : {p q : List ℕ} {done : ℕ → Bool} {g : ℕ → List ℕ} {bits : ℕ} → RedoneOver p q done g 0 bits → Redone p q done g bits
over_nothing {p} {q} O = record { long = O.redone.long; rows = O.redone.rows; marked = O.marked ∙ or_zero_l (bits_of 64 (changed p q)) }

-- a change of other rows after it, over what came out
pub over-join : {p q r : List ℕ} {done all : ℕ → Bool} {g h : ℕ → List ℕ} {known bits bits' : ℕ} → RedoneOver p q done g known bits
    → bits' ≡ bit_or bits (bits_of 64 (changed q r)) → Redone p r all h (bit_or (bits_of 64 (changed p q)) (bits_of 64 (changed q r)))
    → RedoneOver p r all h known bits'
over-join {p} {q} {r} {known = known} O e J = record {
  redone = redone-own J;
  marked = e ∙ ap (λ (x : ℕ). bit_or x (bits_of 64 (changed q r))) O.marked
      ∙ bit-or-assoc known (bits_of 64 (changed p q)) (bits_of 64 (changed q r)) ∙ ap (bit_or known) J.marked;
}

-- ---- an edit that is done

pub over-applied : {n : ℕ} {e d : Edit} {p q : List ℕ} {known bits : ℕ} → Fits n e p → e ≡ d → EditedOver d p q known bits → AppliedOver n e p q known bits
over-applied {known = known} F i O =
    let A = edited-applied F i O.redone in
    record { page = A.page; marked = O.marked ∙ ap (bit_or known) A.marked }

pub edited-over : {n : ℕ} {e d : Edit} {p q : List ℕ} {known bits : ℕ} → Fits n e p → e ≡ d → Edited d p q bits → AppliedOver n e p q known (bit_or known bits)
edited-over {known = known} F i E = over-applied F i (over-or E known)

pub keep-over : {n : ℕ} {e : Edit} {p : List ℕ} {known : ℕ} → Fits n e p → e ≡ Keep → AppliedOver n e p p known known
keep-over {p = p} F i = over-applied F i (over-same (keep-edited p))

-- nothing is known
pub applied-alone : {n : ℕ} {e : Edit} {p q : List ℕ} {bits : ℕ} → AppliedOver n e p q 0 bits → Applied n e p q bits
applied-alone {n} {p = p} {q} O = record { page = O.page; marked = O.marked ∙ or_zero_l (bits_of n (changed p q)) }
