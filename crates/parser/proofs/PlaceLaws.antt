-- The parameter bytes of a control sequence, read one by one, leave what their places say.
use mathlib.Core.Path.{◌≡◌, refl, sym, ◌∙◌}
use mathlib.Core.Bool.{Bool, true, false, cond, ◌||◌, or-true, or-false, or_assoc}
use mathlib.Core.List.{List, [], ◌∷◌, ◌++◌, append_assoc, append-nil}
use mathlib.Core.Logic.{⊎_elim}
use Prim.Native.Nat.{ℕ, zero, suc, ◌+◌, ◌-◌, ◌*◌, ◌≤◌, min}
use native.Mathlib.Omega.{arith}
use lib.Dec.{eqb, ltb, eqb-suc-zero}
use lib.ListN.{length, take, replicate, length-append, replicate-append-replicate}
use lib.Seq.{take_all, take_at, take-take, take-append-le, append_snoc, get_or-append_seam, set-append_seam, set_at}
use borrow.Author.Tests.{ne_eqb, lt-ltb, le-ltb, le-leb}
use Rattle.parser.specs.declared.params.Params.{Params}
use Rattle.parser.specs.declared.phases.Phase.TheVariants.{CsiParam}
use Rattle.parser.specs.declared.parser.Parser.{Parser}
use Rattle.parser.specs.Params.{joined, no_params, param_list, with_digit, with_joined, with_next, member}
use Rattle.parser.specs.Families.{is_joined, joined_mark}
use Rattle.parser.specs.Parser.{gathered}
use Rattle.parser.specs.Places.{colons, number, group, places_from, places, are_parameters}
use Rattle.ground.specs.Folds.{folded}
use Rattle.ground.specs.Tests.{between}
use Rattle.ground.proofs.ListLaws.{split-eq}
use Rattle.ground.proofs.TestLaws.{and_left, and_right, between-high, either}

-- ---- one value more, at the end of a list

folded_more : {A : Type 0} (f : A → ℕ → A) (a : A) (xs : List ℕ) (x : ℕ) → folded f a (xs ++ x ∷ []) ≡ f (folded f a xs) x
folded_more f a [] x = refl
folded_more f a (y ∷ xs) x = folded_more f (f a y) xs x

member-more : (v : ℕ) (xs : List ℕ) (x : ℕ) → member v (xs ++ x ∷ []) ≡ member v xs || eqb v x
member-more v [] x = or-false (eqb v x)
member-more v (y ∷ xs) x = rw (member-more v xs x, or_assoc)

-- ---- what is kept of places, and the mark

-- the mark, by the one at first and the places that are kept
abbrev marked : ℕ → List ℕ → ℕ
marked m l = cond (member joined l) (joined_mark m) m

-- it is joined once
joined_once : (m : ℕ) (t : Bool) → joined_mark (cond t (joined_mark m) m) ≡ joined_mark m
joined_once m true = either (λ k. joined_mark k ≡ k) (is_joined m) (λ e. rw e) (λ e. rw (le-leb 0x80 (m + 0x80) (omega arith)))
joined_once m false = refl

-- once l and then v are read: all of them are kept, z is not used yet; or y is kept, the first 16, and v is dropped
data Kept (m : ℕ) (l : List ℕ) (v : ℕ) : Params → ℕ → Type 0 where
  few : (z : List ℕ) → length l + length z ≡ 15 → Kept m l v (record { separators = length l; values = l ++ v ∷ z }) (marked m (l ++ v ∷ []))
  full : (y : List ℕ) → take 16 l ≡ y → 16 ≤ length l → Kept m l v (record { separators = 16; values = y }) (marked m y)

-- a digit d more; the last place is the number n, or joined
digit : {m : ℕ} {l : List ℕ} (t : Bool) (n d : ℕ) {q : Params} {k : ℕ} → n ≤ 9999 → Kept m l (cond t n joined) q k
    → Kept m l (cond t (min 9999 (10 * n + d)) joined) (with_digit q d) k
unfolding with_digit
digit {l} true n d b (few z h) =
    let a = min 9999 (10 * n + d) in
    let same : member joined (l ++ a ∷ []) ≡ member joined (l ++ n ∷ []) = simp (member-more, ne_eqb joined n (omega arith), ne_eqb joined a (omega arith)) in
    rw (lt-ltb (length l) 16 (omega arith), get_or-append_seam, set-append_seam, ne_eqb n joined (omega arith), ← same) (few z h)
digit {l} false n d b (few z h) = rw (lt-ltb (length l) 16 (omega arith), get_or-append_seam, set-append_seam) (few z h)
digit t n d b (full y e h) = full y e h

module _ {m : ℕ} {l : List ℕ} {v : ℕ} where
  -- 3A joins
  join : {q : Params} {k : ℕ} → Kept m l v q k → Kept m l joined (with_joined q 0x3A) (cond (ltb q.separators 16) (joined_mark k) k)
  unfolding with_joined
  join (few z h) =
      let shown : marked m (l ++ joined ∷ []) ≡ joined_mark m = rw (member-more joined l joined, or-true) in
      rw (lt-ltb (length l) 16 (omega arith), set-append_seam, joined_once, ← shown) (few z h)
  join (full y e h) = full y e h

  -- the next place, w
  next : (w : ℕ) {q : Params} {k : ℕ} → Kept m l v q k → member joined (l ++ v ∷ [] ++ w ∷ []) ≡ member joined (l ++ v ∷ [])
      → Kept m (l ++ v ∷ []) w (with_next q w) k
  unfolding with_next
  next w (few [] h) e =
      let n = length-append l (v ∷ []) in
      rw (le-ltb (length l) 15 (omega arith)) (full (l ++ v ∷ []) (take_all 16 (l ++ v ∷ []) (omega arith)) (omega arith))
  next w (few (x ∷ z) h) e =
      let n = length-append l (v ∷ []) in
      rw (lt-ltb (length l) 15 (omega arith), ← append_snoc l v (x ∷ z), set_at (l ++ v ∷ []) x z w (length l + 1) n, ← n, ← e) (few z (omega arith))
  next w (full y e h) _ = full y (take-append-le 16 l (v ∷ []) h ∙ e) (omega (arith, length-append l (v ∷ [])))

  -- the end
  read : {q : Params} {k : ℕ} → Kept m l v q k → (param_list q ≡ take 16 (l ++ v ∷ [])) × (k ≡ marked m (take 16 (l ++ v ∷ [])))
  read (few z h) =
      let n = length-append l (v ∷ []) in
      rw (take_all 16 (l ++ v ∷ []) (omega arith), ← append_snoc l v z) (take_at (l ++ v ∷ []) z (min (length l + 1) 16) (omega arith), refl)
  read (full y e h) = rw (take-append-le 16 l (v ∷ []) h, ← e) (take-take 16 16 l (omega arith), refl)

-- ---- the places of bytes

-- those of a parameter, n how many 3A it has and k its number: the last of them stands apart
group-last : (n k : ℕ) → cond (eqb n 0) (k ∷ []) (replicate (n + 1) joined) ≡ replicate n joined ++ cond (eqb n 0) k joined ∷ []
group-last zero k = refl
group-last (suc n) k = rw (eqb-suc-zero n) (sym (replicate-append-replicate (suc n) 1 joined))

-- the parameters `done` are read, and p since the last 3B; xs is to come
go : (m : ℕ) (xs done p : List ℕ) (s : Parser) → number p ≤ 9999 → are_parameters xs ≡ true
    → Kept m (done ++ replicate (colons p) joined) (cond (eqb (colons p) 0) (number p) joined) s.params s.mark
    → let r = folded (gathered CsiParam) s xs in let l = take 16 (done ++ places_from p xs) in (param_list r.params ≡ l) × (r.mark ≡ marked m l)
unfolding with_joined
go m [] done p s b a h = rw (group-last (colons p) (number p), ← append_assoc) (read h)
go m (x ∷ xs) done p s b a h =
    let high = between-high 0x30 x 0x3B (and_left _ _ a) in
    let rest = and_right (between 0x30 x 0x3B) (are_parameters xs) a in
    ⊎_elim
    (λ (e : x ≡ 0x3B). rw (e, ← append_assoc) (go m xs (done ++ group p) [] (gathered CsiParam s 0x3B) (omega arith) rest
    (rw (append-nil, group-last (colons p) (number p), ← append_assoc) (next 0 h (simp (member-more, or-false))))))
    (λ n. rw (ne_eqb x 0x3B n) (go m xs done (p ++ x ∷ []) (gathered CsiParam s x) (rw folded_more (omega arith)) rest
    (⊎_elim
    (λ (e : x ≡ 0x3A). rw (e, folded_more, ne_eqb (colons p + 1) 0 (omega arith), ← replicate-append-replicate (colons p) 1 joined, ← append_assoc)
    (next joined (join h) (simp (member-more, or-true))))
    (λ i. rw (folded_more, folded_more, ne_eqb x 0x3A i, lt-ltb x 0x3A (omega arith)) (digit (eqb (colons p) 0) (number p) (x - 0x30) b h))
    (split-eq x 0x3A))))
    (split-eq x 0x3B)

-- of a run of parameter bytes, gathered where none is yet, the first 16 places are kept, and in the mark whether one of them is joined
pub places-read : (s : Parser) (xs : List ℕ) → s.params ≡ no_params → are_parameters xs ≡ true
    → let r = folded (gathered CsiParam) s xs in
    (param_list r.params ≡ take 16 (places xs)) × (r.mark ≡ cond (member joined (take 16 (places xs))) (joined_mark s.mark) s.mark)
places-read s xs e a = go s.mark xs [] [] s (omega arith) a (rw e (few (replicate 15 0) refl))
