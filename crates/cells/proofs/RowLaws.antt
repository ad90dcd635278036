-- Laws of a page by its rows: a page is its rows, and a row its cells.
use mathlib.Core.Path.{fun_ext, ◌≡◌, refl, sym, ◌∙◌}
use mathlib.Core.List.{List, [], ◌∷◌, ◌++◌}
use Prim.Native.Nat.{ℕ, zero, suc, ◌+◌, ◌*◌, ◌≤◌, ◌<◌}
use native.Mathlib.Omega.{arith}
use lib.ListN.{length, get_or, drop, length-append, length-take, length-drop, take-append-drop}
use lib.Seq.{length-take-le, drop-nil, drop-drop, take_at, drop_at, get_or-take, get_or-drop, ext_get_or}
use Rattle.cells.specs.Rows.{row, rows_of, nth, joined, differs}
use Rattle.cells.specs.Sets.{changed, changed_in}

-- ---- a page is its rows

pub joined-ext : (n : ℕ) (f g : ℕ → List ℕ) → ((k : ℕ) → k < n → f k ≡ g k) → joined n f ≡ joined n g
unfolding joined
joined-ext zero f g h = refl
joined-ext (suc n) f g h = rw (h zero (omega arith), joined-ext n (λ k. f (suc k)) (λ k. g (suc k)) (λ k l. h (suc k) (omega arith)))

row_next : (p : List ℕ) (k : ℕ) → row p (suc k) ≡ row (drop 80 p) k
row_next p k = let e : 80 * suc k ≡ 80 + 80 * k = omega arith in rw (e, ← drop-drop (80 * k) 80 p)

pub joined-rows : (n : ℕ) (p : List ℕ) → length p ≡ 80 * n → joined n (row p) ≡ p
unfolding joined
joined-rows zero [] h = refl
joined-rows zero (x ∷ p) h = absurd (omega arith)
joined-rows (suc n) p h =
    let rest = joined-ext n (λ k. row p (suc k)) (row (drop 80 p)) (λ k l. row_next p k) in
    rw (rest, joined-rows n (drop 80 p) (simp length-drop (omega arith))) (take-append-drop 80 p)

pub length-joined : (n : ℕ) (f : ℕ → List ℕ) → ((k : ℕ) → k < n → length (f k) ≡ 80) → length (joined n f) ≡ 80 * n
unfolding joined
length-joined zero f h = refl
length-joined (suc n) f h =
    simp length-append (omega (arith, h zero (omega arith), length-joined n (λ k. f (suc k)) (λ k l. h (suc k) (omega arith))))

pub row-joined : (n : ℕ) (f : ℕ → List ℕ) → ((k : ℕ) → k < n → length (f k) ≡ 80) → (k : ℕ) → k < n → row (joined n f) k ≡ f k
unfolding joined
row-joined zero f h k l = absurd (omega arith)
row-joined (suc n) f h zero l = take_at (f zero) (joined n (λ k. f (suc k))) 80 (h zero (omega arith))
row-joined (suc n) f h (suc k) l =
    rw (row_next (f zero ++ joined n (λ k. f (suc k))) k, drop_at (f zero) (joined n (λ k. f (suc k))) 80 (h zero (omega arith)))
    (row-joined n (λ k. f (suc k)) (λ k l. h (suc k) (omega arith)) k (omega arith))

rows_at : (n : ℕ) (p : List ℕ) → length p ≡ 80 * n → (k : ℕ) → nth (rows_of n p) k ≡ row p k
rows_at zero [] h k = rw (drop-nil (80 * k))
rows_at zero (x ∷ p) h k = absurd (omega arith)
rows_at (suc n) p h zero = refl
rows_at (suc n) p h (suc k) = rows_at n (drop 80 p) (simp length-drop (omega arith)) k ∙ sym (row_next p k)

pub rows_are : (n : ℕ) (p : List ℕ) → length p ≡ 80 * n → nth (rows_of n p) ≡ row p
rows_are n p h = fun_ext (rows_at n p h)

pub changed-in : (n : ℕ) (p q : List ℕ) → length p ≡ 80 * n → length q ≡ 80 * n → changed_in n p q ≡ changed p q
changed-in n p q hp hq = λ i k. differs (rows_are n p hp i k) (rows_are n q hq i k)

-- ---- a row by its cells

pub length-row : (p : List ℕ) (k : ℕ) → 80 * k + 80 ≤ length p → length (row p k) ≡ 80
length-row p k h = length-take-le 80 (drop (80 * k) p) (simp length-drop (omega arith))

pub cell-of-row : (p : List ℕ) (k c : ℕ) → c < 80 → get_or (row p k) c 0 ≡ get_or p (80 * k + c) 0
cell-of-row p k c h = get_or-take 80 (drop (80 * k) p) c 0 h ∙ get_or-drop (80 * k) p c 0

-- two rows of pages of one length are equal if their cells are
pub row-ext : (p q : List ℕ) (k : ℕ) → length q ≡ length p
    → ((c : ℕ) → c < 80 → 80 * k + c < length p → get_or q (80 * k + c) 0 ≡ get_or p (80 * k + c) 0) → row q k ≡ row p k
row-ext p q k l h =
    ext_get_or 0 (row q k) (row p k) (simp (length-take, length-drop, l)) (λ c i.
    let j = simp (length-take, length-drop) at i in
    cell-of-row q k c (omega arith) ∙ h c (omega arith) (omega arith) ∙ sym (cell-of-row p k c (omega arith)))
