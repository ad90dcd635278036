-- The parameters' values are read two bytes at a time.
use Rattle.std.proofs.Common.{◌≡◌, ℕ, suc, ◌+◌, ◌*◌, ◌<◌, ◌≤◌, List, [], ◌∷◌, ◌++◌, length, get_or, take, drop, set, ap, ◌∙◌, append-nil, add-one, arith, drop_of_length-le, take_all, drop-cons, take-suc-set}
use lib.Seq.{append_snoc}
use Rattle.probes.specs.Pokes.{numbers_of}

-- the next number of what is left
numbers-next : (bs : List ℕ) (at : ℕ) → at + 1 < length bs → numbers_of (drop at bs) ≡ (get_or bs at 0 + 256 * get_or bs (at + 1) 0) ∷ numbers_of (drop (at + 2) bs)
numbers-next bs at h =
    let e : suc (suc at) ≡ at + 2 = omega arith in
    ap numbers_of (drop-cons bs at 0 (omega arith) ∙ ap (λ (l : List ℕ). get_or bs at 0 ∷ l) (drop-cons bs (suc at) 0 (omega arith)))
    ∙ rw (add-one at, e)

pub values-less : (bs vs : List ℕ) (i : ℕ) → i < 16 → length bs ≡ 37 → length vs ≡ 16 → take i vs ++ numbers_of (drop (5 + 2 * i) bs) ≡ numbers_of (drop 5 bs)
    → (v : ℕ) → v ≡ get_or bs (5 + 2 * i) 0 + 256 * get_or bs (5 + 2 * i + 1) 0
    → take (i + 1) (set vs i v) ++ numbers_of (drop (5 + 2 * (i + 1)) bs) ≡ numbers_of (drop 5 bs)
values-less bs vs i h lb lv e v ev =
    let n : 5 + 2 * (i + 1) ≡ 5 + 2 * i + 2 = omega arith in
    rw (n, add-one i, take-suc-set vs i v (omega arith), append_snoc, ev, ← numbers-next bs (5 + 2 * i) (omega arith)) e

pub values-all : (bs vs : List ℕ) (i : ℕ) → 16 ≤ i → length bs ≡ 37 → length vs ≡ 16 → take i vs ++ numbers_of (drop (5 + 2 * i) bs) ≡ numbers_of (drop 5 bs)
    → vs ≡ numbers_of (drop 5 bs)
values-all bs vs i h lb lv e =
    let none : drop (5 + 2 * i) bs ≡ [] = drop_of_length-le bs {i = 5 + 2 * i} (omega arith) in
    rw (take_all i vs (omega arith), none, append-nil) at e
