-- A part of the page that is written: what it leaves, and loops that store it one word a turn, upward or downward.
-- Each word is stored once and compared with what stood there.
use mathlib.Core.Path.{◌≡◌, refl, ◌∙◌}
use mathlib.Core.Bool.{Bool, false, not, ◌||◌, or_comm, or-false}
use mathlib.Core.List.{List, ◌∷◌, ◌++◌, append_assoc}
use mathlib.Core.Logic.{◌⊎◌, inl, inr}
use Prim.Native.Nat.{ℕ, suc, ◌+◌, ◌≤◌, ◌<◌}
use native.Mathlib.Nat.{add_assoc, add-suc, suc-add}
use native.Mathlib.Numerals.{add-one}
use native.Mathlib.Omega.{arith}
use lib.Dec.{eqb}
use lib.ListN.{length, get_or, take, drop, set, length-take, length-drop}
use lib.Seq.{paste, length-paste, paste-zero, paste-suc, take-paste, drop-paste, take-suc, take-add, drop-cons, drop-drop, get_or-drop, set_at, length-take-le}
use Rattle.cells.specs.Rows.{differs}
use Rattle.cells.specs.Segments.{Pasted}
use Rattle.ground.proofs.ListLaws.{paste-inside, paste-outside}
use Rattle.cells.proofs.Differing.{differs-append, differs-paste, paste-ext}

-- upward, the next word, whether it is compared or not
pub paste-up : (p q : List ℕ) (at : ℕ) (s : List ℕ) (n w : ℕ) → q ≡ paste p at s n → at + n < length p → n < length s → w ≡ get_or s n 0
    → set q (at + n) w ≡ paste p at s (n + 1)
paste-up p q at s n w e h hs ew = rw (add-one n, ew, e) (paste-suc p at s n 0 h hs)

pub pasted-none : (p : List ℕ) (at : ℕ) (s : List ℕ) (n : ℕ) → n ≡ 0 → Pasted p p at s n false
pasted-none p at s n e = rw e (record { page = paste-zero p at s; flagged = refl })

module _ {p q : List ℕ} {at : ℕ} {s : List ℕ} {n : ℕ} {flag : Bool} (P : Pasted p q at s n flag) where
  module _ (h : at + n ≤ length p) (hs : n ≤ length s) where
    pub pasted-long : length q ≡ length p
    pasted-long = rw P.page (length-paste p at s n h hs)

    pub pasted-outside : (i : ℕ) → (i < at) ⊎ (at + n ≤ i) → get_or q i 0 ≡ get_or p i 0
    pasted-outside i o = rw P.page (paste-outside p at s n h hs i o)

    pub pasted-inside : (j : ℕ) → j < n → get_or q (at + j) 0 ≡ get_or s j 0
    pasted-inside j l = rw P.page (paste-inside p at s n h hs j l)

    pub pasted-flagged : flag ≡ differs p q
    pasted-flagged = cc (differs-paste p at s n h hs)

  -- upward, the next word
  pub pasted-up : (w : ℕ) (flag' : Bool) → at + n < length p → n < length s → w ≡ get_or s n 0 → flag' ≡ flag || not (eqb (get_or q (at + n) 0) w)
      → Pasted p (set q (at + n) w) at s (n + 1) flag'
  pasted-up w flag' h hs ew ef =
      let l : n < length (drop at p) = simp length-drop (omega arith) in
      let same : length (take n (drop at p)) ≡ length (take n s) = simp (length-take, length-drop) (omega arith) in
      let stood = pasted-outside (omega arith) (omega arith) (at + n) (inr (omega arith)) in
      record {
        page = paste-up p q at s n w P.page h hs ew;
        flagged = rw (add-one n, take-suc (drop at p) n 0, take-suc s n 0, differs-append, or-false, get_or-drop, ← stood, ← ew, ← P.flagged) ef;
      }

  -- downward, the word before
  pub pasted-down : (to : ℕ) (t : List ℕ) (m w : ℕ) (flag' : Bool) → at ≡ suc to → t ≡ w ∷ s → m ≡ suc n → at + n ≤ length p → n ≤ length s
      → flag' ≡ flag || not (eqb (get_or q to 0) w) → Pasted p (set q to w) to t m flag'
  pasted-down to t m w flag' ea et em h hs ef =
      let l : to < length p = omega arith in
      let stood = pasted-outside h hs to (inl (omega arith)) in
      let seam = set_at (take to p) (get_or p to 0) (take n s ++ drop (suc (to + n)) p) w to (length-take-le to p (omega arith)) in
      rw (et, em) (record {
        page = rw (P.page, ea, take-suc p to 0, suc-add, add-suc) (simp append_assoc seam);
        flagged = rw (drop-cons p to 0, or_comm, ← ea, ← P.flagged, ← stood) ef;
      })

  -- after the last turn
  pub pasted-all : (m : ℕ) → n ≡ m → Pasted p q at s m flag
  pasted-all m e = rw e at P

-- a paste goes by the words that it takes
pub pasted-ext : {p q : List ℕ} {at : ℕ} {s : List ℕ} {n : ℕ} {flag : Bool} (t : List ℕ)
    → Pasted p q at s n flag → take n s ≡ take n t → Pasted p q at t n flag
pasted-ext {p} {q} {at} {s} {n} t P e = record { page = P.page ∙ paste-ext p at s t n e; flagged = rw (← e) P.flagged }

-- two pastes, the second where the first ends, add up
pub pasted-join : {p q r : List ℕ} {at : ℕ} {s : List ℕ} {k n : ℕ} {f g : Bool} → at + k ≤ length p → k ≤ length s
    → Pasted p q at s k f → Pasted q r (at + k) (drop k s) n g → Pasted p r at s (k + n) (f || g)
pasted-join {p} {q} {r} {at} {s} {k} {n} {f} {g} h hs P Q =
    let before : take (at + k) q ≡ take at p ++ take k s = rw P.page (take-paste p at s k (omega arith) hs) in
    let after : drop (at + k) q ≡ drop (at + k) p = rw P.page (drop-paste p at s k (omega arith) hs) in
    let behind : drop (at + k + n) q ≡ drop (at + k + n) p = rw (← drop-drop n (at + k) q, ← drop-drop n (at + k) p, after) in
    let same : length (take k (drop at p)) ≡ length (take k s) = simp (length-take, length-drop) (omega arith) in
    record {
      page = Q.page ∙ rw (before, behind, take-add k n s, ← add_assoc at k n) (simp append_assoc);
      flagged = rw (P.flagged, Q.flagged, after, take-add k n (drop at p), take-add k n s, drop-drop k at p, differs-append) refl;
    }
