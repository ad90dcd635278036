-- Scrolls of whole rows that are done before their time: a put into a row and then a scroll is the scroll and then a put into the row
-- where that row went; and scrolls add up.
use mathlib.Core.Path.{fun_ext, ◌≡◌, sym, ap, ap₂, ◌∙◌}
use mathlib.Core.Bool.{and-false}
use mathlib.Core.List.{List, ◌++◌, append-nil}
use mathlib.Core.Logic.{◌⊎◌, inl, inr, ⊎_elim}
use Prim.Native.Nat.{ℕ, ◌+◌, ◌-◌, ◌*◌, ◌≤◌, ◌<◌}
use native.Mathlib.Nat.{add-zero}
use native.Mathlib.Omega.{arith}
use lib.Dec.{leb}
use lib.ListN.{length, take, set, length-set, length-replicate, drop_of_length-le}
use lib.Seq.{take_all}
use borrow.Author.Tests.{eq-eqb, ne_eqb, le-leb, lt-leb, lt-ltb, le-ltb}
use Rattle.ground.proofs.ListLaws.{split-lt, split-eq}
use Rattle.cells.specs.Cells.{blank}
use Rattle.cells.specs.Rows.{row, joined}
use Rattle.cells.proofs.RowLaws.{joined-ext, joined-rows, length-row}
use Rattle.page.specs.declared.Edit.{Edit}
use Rattle.page.specs.declared.Edit.TheVariants.{Put, ScrollUp}
use Rattle.page.specs.Edits.{after, applied, overlaid, blank_row, Within}
use Rattle.page.proofs.EditLaws.{applied-def, applied-row, length-applied}

-- ---- rows

-- all of a row is taken
over-all : (x y : List ℕ) → length x ≡ 80 → length y ≡ 80 → overlaid x 0 80 y ≡ y
over-all x y hx hy =
    ap₂ (λ (u v : List ℕ). u ++ v) (take_all 80 y (omega arith)) (drop_of_length-le x {i = 80} (omega arith)) ∙ append-nil y

-- rows t to e have 80 cells
abbrev Long : ℕ → ℕ → (ℕ → List ℕ) → Type 0
Long t e f = (k : ℕ) → t ≤ k → k < e → length (f k) ≡ 80

-- what row k is after a scroll of whole rows by n
module _ (t e n : ℕ) (f : ℕ → List ℕ) (long : Long t e f) where
  up-moved : (k : ℕ) → t ≤ k → k + n < e → after (ScrollUp t e 0 80 n) f k ≡ f (k + n)
  up-moved k a b =
      rw (le-leb t k a, lt-ltb k e (omega arith), lt-ltb (k + n) e b)
      (over-all (f k) (f (k + n)) (long k a (omega arith)) (long (k + n) (omega arith) b))

  up-blank : (k : ℕ) → t ≤ k → k < e → e ≤ k + n → after (ScrollUp t e 0 80 n) f k ≡ blank_row
  up-blank k a b h = rw (le-leb t k a, lt-ltb k e b, le-ltb (k + n) e h) (over-all (f k) blank_row (long k a b) (length-replicate 80 blank))

pub up-outside : (t e n : ℕ) (f : ℕ → List ℕ) (k : ℕ) → (k < t) ⊎ (e ≤ k) → after (ScrollUp t e 0 80 n) f k ≡ f k
up-outside t e n f k = ⊎_elim (λ (a : k < t). rw (lt-leb t k a)) (λ (a : e ≤ k). rw (le-ltb k e a, and-false (leb t k)))

put_same : (r c w : ℕ) (f : ℕ → List ℕ) (k : ℕ) → k ≡ r → after (Put r c w) f k ≡ set (f k) c w
put_same r c w f k e = rw (eq-eqb k r e)

pub put_other : (r c w : ℕ) (f : ℕ → List ℕ) (k : ℕ) → (k ≡ r → ⊥) → after (Put r c w) f k ≡ f k
put_other r c w f k ne = rw (ne_eqb k r ne)

put-long : (t e r c w : ℕ) (f : ℕ → List ℕ) → Long t e f → Long t e (after (Put r c w) f)
put-long t e r c w f long k a b =
    ⊎_elim
    (λ (i : k ≡ r). ap length (put_same r c w f k i) ∙ length-set (f k) c w ∙ long k a b)
    (λ (ne : k ≡ r → ⊥). ap length (put_other r c w f k ne) ∙ long k a b)
    (split-eq k r)

up-long : (t e n : ℕ) (f : ℕ → List ℕ) → Long t e f → Long t e (after (ScrollUp t e 0 80 n) f)
up-long t e n f long k a b =
    ⊎_elim
    (λ (d : k + n < e). ap length (up-moved t e n f long k a d) ∙ long (k + n) (omega arith) d)
    (λ (d : e ≤ k + n). ap length (up-blank t e n f long k a b d) ∙ length-replicate 80 blank)
    (split-lt (k + n) e)

-- a row of the block whose scroll brings a row, or a blank one, or a row outside
by_row : (P : Type 0) (t e n k : ℕ) → ((k < t) ⊎ (e ≤ k) → P) → (t ≤ k → k + n < e → P) → (t ≤ k → k < e → e ≤ k + n → P) → P
by_row P t e n k out moved entered =
    ⊎_elim (λ (a : k < t). out (inl a))
    (λ (a : t ≤ k). ⊎_elim (λ (b : k + n < e). moved a b)
    (λ (b : e ≤ k + n). ⊎_elim (λ (d : k < e). entered a d b) (λ (d : e ≤ k). out (inr d)) (split-lt k e)) (split-lt (k + n) e))
    (split-lt k t)

-- a put into row r, then a scroll by n, is the scroll and a put into row r - n
module _ (t e n r c w : ℕ) (f : ℕ → List ℕ) (long : Long t e f) (low : t + n ≤ r) (high : r < e) where
  g : ℕ → List ℕ
  g = after (Put r c w) f

  h : ℕ → List ℕ
  h = after (ScrollUp t e 0 80 n) f

  put-row : (k : ℕ) → after (ScrollUp t e 0 80 n) (after (Put r c w) f) k ≡ after (Put (r - n) c w) (after (ScrollUp t e 0 80 n) f) k
  unfolding g h
  put-row k =
      by_row (after (ScrollUp t e 0 80 n) g k ≡ after (Put (r - n) c w) h k) t e n k outside moved
      (λ a d b. up-blank t e n g (put-long t e r c w f long) k a d b ∙ sym (put_other (r - n) c w h k (omega arith) ∙ up-blank t e n f long k a d b))
    where
      outside : (k < t) ⊎ (e ≤ k) → after (ScrollUp t e 0 80 n) g k ≡ after (Put (r - n) c w) h k
      outside o =
          let no : k ≡ r → ⊥ = λ i. ⊎_elim (λ (a : k < t). omega arith) (λ (a : e ≤ k). omega arith) o in
          let no' : k ≡ r - n → ⊥ = λ i. ⊎_elim (λ (a : k < t). omega arith) (λ (a : e ≤ k). omega arith) o in
          up-outside t e n g k o ∙ put_other r c w f k no ∙ sym (put_other (r - n) c w h k no' ∙ up-outside t e n f k o)

      moved : t ≤ k → k + n < e → after (ScrollUp t e 0 80 n) g k ≡ after (Put (r - n) c w) h k
      moved a b =
          up-moved t e n g (put-long t e r c w f long) k a b
          ∙ ⊎_elim
          (λ (i : k ≡ r - n).
          put_same r c w f (k + n) (omega arith) ∙ ap (λ (x : List ℕ). set x c w) (sym (up-moved t e n f long k a b)) ∙ sym (put_same (r - n) c w h k i))
          (λ (ne : k ≡ r - n → ⊥).
          put_other r c w f (k + n) (λ i. ne (omega arith)) ∙ sym (up-moved t e n f long k a b) ∙ sym (put_other (r - n) c w h k ne))
          (split-eq k (r - n))

-- a scroll by m, then by n, is one by both
twice-row : (t e n m : ℕ) (f : ℕ → List ℕ) → Long t e f → (k : ℕ)
    → after (ScrollUp t e 0 80 n) (after (ScrollUp t e 0 80 m) f) k ≡ after (ScrollUp t e 0 80 (n + m)) f k
twice-row t e n m f long k =
    let F : ℕ → List ℕ = after (ScrollUp t e 0 80 m) f in
    let L : Long t e F = up-long t e m f long in
    by_row (after (ScrollUp t e 0 80 n) F k ≡ after (ScrollUp t e 0 80 (n + m)) f k) t e n k
    (λ o. up-outside t e n F k o ∙ up-outside t e m f k o ∙ sym (up-outside t e (n + m) f k o))
    (λ a d. up-moved t e n F L k a d
    ∙ ⊎_elim
    (λ (i : k + n + m < e).
    let q : k + n + m ≡ k + (n + m) = omega arith in
    up-moved t e m f long (k + n) (omega arith) i ∙ ap f q ∙ sym (up-moved t e (n + m) f long k a (omega arith)))
    (λ (i : e ≤ k + n + m). up-blank t e m f long (k + n) (omega arith) d i ∙ sym (up-blank t e (n + m) f long k a (omega arith) (omega arith)))
    (split-lt (k + n + m) e))
    (λ a b d. up-blank t e n F L k a b d ∙ sym (up-blank t e (n + m) f long k a b (omega arith)))

-- a scroll by none
none_row : (t e : ℕ) (f : ℕ → List ℕ) → Long t e f → (k : ℕ) → after (ScrollUp t e 0 80 0) f k ≡ f k
none_row t e f long k =
    by_row (after (ScrollUp t e 0 80 0) f k ≡ f k) t e 0 k (up-outside t e 0 f k) (λ a b. up-moved t e 0 f long k a b ∙ ap f (add-zero k))
    (λ a b d. absurd (omega arith))

-- ---- pages

-- the rows of a page after an edit, those past its end too
rows-applied : (n : ℕ) (E : Edit) (p : List ℕ) → length p ≡ 80 * n → Within n E → ((j : ℕ) → n ≤ j → after E (row p) j ≡ row p j)
    → row (applied n E p) ≡ after E (row p)
rows-applied n E p hp w past =
    fun_ext (λ j. ⊎_elim (λ (l : j < n). applied-row n E p hp w j l)
    (λ (l : n ≤ j).
    let e : length (applied n E p) ≡ 80 * n = length-applied n E p hp w in
    ap (take 80) (drop_of_length-le (applied n E p) {i = 80 * j} (omega arith) ∙ sym (drop_of_length-le p {i = 80 * j} (omega arith))) ∙ sym (past j l))
    (split-lt j n))

module _ (n t e : ℕ) (p : List ℕ) (hp : length p ≡ 80 * n) (ht : t < e) (he : e ≤ n) where
  rows_long : Long t e (row p)
  rows_long k a b = length-row p k (omega arith)

  pub up-within : (a : ℕ) → t + a ≤ e → Within n (ScrollUp t e 0 80 a)
  up-within a h = record { top = ht; end = he; left = omega arith; right = omega arith; count = omega arith }

  rows-up : (a : ℕ) → t + a ≤ e → row (applied n (ScrollUp t e 0 80 a) p) ≡ after (ScrollUp t e 0 80 a) (row p)
  rows-up a h = rows-applied n (ScrollUp t e 0 80 a) p hp (up-within a h) (λ j l. up-outside t e a (row p) j (inr (omega arith)))

  pub up-length : (a : ℕ) → t + a ≤ e → length (applied n (ScrollUp t e 0 80 a) p) ≡ 80 * n
  up-length a h = length-applied n (ScrollUp t e 0 80 a) p hp (up-within a h)

  pub up_none : applied n (ScrollUp t e 0 80 0) p ≡ p
  up_none =
      applied-def n (ScrollUp t e 0 80 0) p hp ∙ joined-ext n (after (ScrollUp t e 0 80 0) (row p)) (row p) (λ k l. none_row t e (row p) rows_long k)
      ∙ joined-rows n p hp

  pub up-twice : (a b : ℕ) → t + b ≤ e → applied n (ScrollUp t e 0 80 a) (applied n (ScrollUp t e 0 80 b) p) ≡ applied n (ScrollUp t e 0 80 (a + b)) p
  up-twice a b h =
      applied-def n (ScrollUp t e 0 80 a) (applied n (ScrollUp t e 0 80 b) p) (up-length b h)
      ∙ ap (λ (f : ℕ → List ℕ). joined n (after (ScrollUp t e 0 80 a) f)) (rows-up b h)
      ∙ joined-ext n (after (ScrollUp t e 0 80 a) (after (ScrollUp t e 0 80 b) (row p))) (after (ScrollUp t e 0 80 (a + b)) (row p))
      (λ k l. twice-row t e a b (row p) rows_long k)
      ∙ sym (applied-def n (ScrollUp t e 0 80 (a + b)) p hp)

  module _ (r c w : ℕ) (high : r < e) (hc : c < 80) where
    pub put-length : length (applied n (Put r c w) p) ≡ 80 * n
    put-length = length-applied n (Put r c w) p hp (omega arith, hc)

    pub put-ahead : (a : ℕ) → t + a ≤ r
        → applied n (ScrollUp t e 0 80 a) (applied n (Put r c w) p) ≡ applied n (Put (r - a) c w) (applied n (ScrollUp t e 0 80 a) p)
    put-ahead a low =
        applied-def n (ScrollUp t e 0 80 a) (applied n (Put r c w) p) put-length
        ∙ ap (λ (f : ℕ → List ℕ). joined n (after (ScrollUp t e 0 80 a) f))
        (rows-applied n (Put r c w) p hp (omega arith, hc) (λ j l. put_other r c w (row p) j (omega arith)))
        ∙ joined-ext n (after (ScrollUp t e 0 80 a) (after (Put r c w) (row p))) (after (Put (r - a) c w) (after (ScrollUp t e 0 80 a) (row p)))
        (λ k l. put-row t e a r c w (row p) rows_long low high k)
        ∙ ap (λ (f : ℕ → List ℕ). joined n (after (Put (r - a) c w) f)) (sym (rows-up a (omega arith)))
        ∙ sym (applied-def n (Put (r - a) c w) (applied n (ScrollUp t e 0 80 a) p) (up-length a (omega arith)))
