-- Parts of a row: a part of a row is that part of the page, and a paste within a row changes no other.
use mathlib.Core.Path.{◌≡◌, sym, ◌∙◌}
use mathlib.Core.List.{List, map}
use mathlib.Core.Logic.{⊎_map}
use Prim.Native.Nat.{ℕ, ◌+◌, ◌*◌, ◌≤◌, ◌<◌}
use native.Mathlib.Nat.{add_assoc}
use native.Mathlib.Omega.{arith}
use lib.ListN.{length, take, drop, length-take, length-drop}
use lib.Seq.{paste, length-paste, get_or-take, get_or-drop, ext_get_or}
use Rattle.std.proofs.lemmas.List.{take-map}
use Rattle.cells.specs.Rows.{row}
use Rattle.ground.proofs.ListLaws.{split-lt, paste-outside, paste-inside, paste-is}
use Rattle.cells.proofs.RowLaws.{length-row, cell-of-row, row-ext}

-- part of a row is that part of the page
pub part-of-row : (p : List ℕ) (k a n : ℕ) → a + n ≤ 80 → take n (drop a (row p k)) ≡ take n (drop (80 * k + a) p)
part-of-row p k a n h =
    ext_get_or 0 (take n (drop a (row p k))) (take n (drop (80 * k + a) p)) (simp (length-take, length-drop) (omega arith)) (λ c i.
    let l : c < n = omega (arith, simp length-take at i) in
    let m : a + c < 80 = omega arith in
    simp (get_or-take, get_or-drop, add_assoc))

pub mapped-part : (f : ℕ → ℕ) (p : List ℕ) (at k a n : ℕ) → at ≡ 80 * k + a → a + n ≤ 80
    → take n (map f (drop at p)) ≡ take n (map f (drop a (row p k)))
mapped-part f p at k a n place h = rw (place, take-map f n (drop (80 * k + a) p), take-map f n (drop a (row p k)), part-of-row p k a n h)

module _ (p : List ℕ) (k a : ℕ) (s : List ℕ) (n : ℕ) (h : a + n ≤ 80) (hp : 80 * k + 80 ≤ length p) (hs : n ≤ length s) where
  pub kept-long : length (paste p (80 * k + a) s n) ≡ length p
  kept-long = length-paste p (80 * k + a) s n (omega arith) hs

  pub row-others : (j : ℕ) → (j ≡ k → ⊥) → row (paste p (80 * k + a) s n) j ≡ row p j
  row-others j ne =
      row-ext p (paste p (80 * k + a) s n) j kept-long (λ c l i.
      paste-outside p (80 * k + a) s n (omega arith) hs (80 * j + c) (⊎_map (λ b. omega arith) (λ b. omega arith) (split-lt j k)))

  pub row-pasted : row (paste p (80 * k + a) s n) k ≡ paste (row p k) a s n
  row-pasted =
      let q : List ℕ = paste p (80 * k + a) s n in
      let lx : length (row p k) ≡ 80 = length-row p k hp in
      let lq : length (row (paste p (80 * k + a) s n) k) ≡ 80 = length-row q k (omega (arith, kept-long)) in
      let hq : 80 * k + a + n ≤ length p = omega arith in
      paste-is (row p k) a s n (omega arith) hs (row q k) (lq ∙ sym lx)
      (λ j l. cell-of-row q k (a + j) (omega arith) ∙ rw (← add_assoc (80 * k) a j) (paste-inside p (80 * k + a) s n hq hs j l))
      (λ c l o. cell-of-row q k c (omega arith)
      ∙ paste-outside p (80 * k + a) s n hq hs (80 * k + c) (⊎_map (λ b. omega arith) (λ b. omega arith) o)
      ∙ sym (cell-of-row p k c (omega arith)))
