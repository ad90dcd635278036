-- Two segments that lie side by side are one, and what they report together is what it would.
use mathlib.Core.Path.{◌≡◌, sym, ap, ◌∙◌}
use mathlib.Core.Bool.{Bool, ◌||◌}
use mathlib.Core.List.{List, ◌++◌}
use mathlib.Core.Logic.{◌⊎◌, inl, inr, ⊎_elim, ⊎_map}
use Prim.Native.Nat.{ℕ, ◌+◌, ◌≤◌, ◌<◌}
use native.Mathlib.Nat.{add_assoc}
use native.Mathlib.Omega.{arith}
use lib.ListN.{length, get_or, length-append, get_or-append}
use lib.Seq.{get_or-append-add}
use Rattle.cells.specs.Rows.{differs}
use Rattle.cells.specs.Segments.{Pasted}
use Rattle.ground.proofs.ListLaws.{by_place, paste-is}
use Rattle.cells.proofs.Differing.{differs-join, differs-paste}
use Rattle.cells.proofs.Storing.{pasted-long, pasted-outside, pasted-inside, pasted-flagged}

module _ {p q r : List ℕ} {at n at' n' : ℕ} {s s' : List ℕ} {flag flag' : Bool} (P : Pasted p q at s n flag) (Q : Pasted q r at' s' n' flag')
    (h : at + n ≤ length p) (hs : n ≤ length s) (h' : at' + n' ≤ length p) (hs' : n' ≤ length s') (apart : (at + n ≤ at') ⊎ (at' + n' ≤ at)) where
  fits' : at' + n' ≤ length q
  fits' = omega (arith, pasted-long P h hs)

  pub both_long : length r ≡ length p
  both_long = pasted-long Q fits' hs' ∙ pasted-long P h hs

  -- the second leaves what the first put
  kept : (j : ℕ) → j < n → get_or r (at + j) 0 ≡ get_or q (at + j) 0
  kept j l = pasted-outside Q fits' hs' (at + j) (⊎_map (λ b. omega arith) (λ b. omega arith) apart)

  pub second : (j : ℕ) → j < n' → get_or r (at' + j) 0 ≡ get_or s' j 0
  second = pasted-inside Q fits' hs'

  pub first : (j : ℕ) → j < n → get_or r (at + j) 0 ≡ get_or s j 0
  first j l = kept j l ∙ pasted-inside P h hs j l

  pub neither : (i : ℕ) → (i < at) ⊎ (at + n ≤ i) → (i < at') ⊎ (at' + n' ≤ i) → get_or r i 0 ≡ get_or p i 0
  neither i o o' = pasted-outside Q fits' hs' i o' ∙ pasted-outside P h hs i o

  pub both-flagged : flag || flag' ≡ differs p r
  both-flagged =
      let one_of_lem = by_place (λ i. (get_or q i 0 ≡ get_or p i 0) ⊎ (get_or r i 0 ≡ get_or q i 0)) at n
      (λ j l. inr (kept j l)) (λ i o. inl (pasted-outside P h hs i o)) in
      rw (pasted-flagged P h hs, pasted-flagged Q fits' hs') (differs-join p q r (pasted-long P h hs) both_long one_of_lem)

-- what is put side by side from a place on
pub side_by_side : (p r : List ℕ) (at l m n : ℕ) (u v : List ℕ) (flag : Bool) → n ≡ l + m → length u ≡ l → m ≤ length v → at + n ≤ length p
    → length r ≡ length p → ((j : ℕ) → j < l → get_or r (at + j) 0 ≡ get_or u j 0) → ((j : ℕ) → j < m → get_or r (at + l + j) 0 ≡ get_or v j 0)
    → ((i : ℕ) → (i < at) ⊎ (at + n ≤ i) → get_or r i 0 ≡ get_or p i 0) → flag ≡ differs p r → Pasted p r at (u ++ v) n flag
side_by_side p r at l m n u v flag en lu lv h long left right out flagged =
    let hs : n ≤ length (u ++ v) = simp length-append (omega arith) in
    let new = by_place (λ j. j < n → get_or r (at + j) 0 ≡ get_or (u ++ v) j 0) l m
    (λ j b c. cc (right j b, get_or-append-add u v j 0, add_assoc at l j))
    (λ j o c. ⊎_elim (λ b. left j b ∙ sym (get_or-append u v 0 j (omega arith))) (λ b. absurd (omega arith)) o) in
    let is = paste-is p at (u ++ v) n h hs r long new (λ i b. out i) in
    record { page = is; flagged = flagged ∙ ap (differs p) is ∙ differs-paste p at (u ++ v) n h hs }
