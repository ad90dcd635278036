-- Reading a byte keeps the parser whole.
use Rattle.std.proofs.Common.{◌≡◌, ℕ, zero, suc, ◌+◌, ◌-◌, ◌<◌, ◌≤◌, min, Bool, true, false, cond, ◌||◌, eqb, ltb, leb, List, [], ◌∷◌, get_or, take, set, refl, zero-le, le_refl, arith, ltb-false, ltb-true, eqb-true, le-leb, leb-false, leb-true}
use mathlib.Core.Bool.{or-true}
use borrow.Author.Tests.{lt-leb}
use Rattle.parser.specs.declared.params.Params.{Params}
use Rattle.parser.specs.declared.phases.Phase.{Phase}
use Rattle.parser.specs.declared.phases.Phase.TheVariants.{EscapeOne, CsiParam, CsiOne}
use Rattle.parser.specs.declared.phases.Transition.{Transition}
use Rattle.parser.specs.declared.phases.Op.{Op}
use Rattle.parser.specs.declared.parser.Parser.{Parser}
use Rattle.parser.specs.Params.{joined, param_count, param_list, appended, with_digit, joins, with_joined, with_next, opened, with_byte, none_above}
use Rattle.parser.specs.Phases.{phase_number, is_phase, intermediates}
use Rattle.parser.specs.Parser.{to, cleared, in_phase, with_mark, mark_after, collected, gathered, kept, lowered, transition, decode}
use Rattle.ground.specs.Tests.{between}
use Rattle.parser.specs.Families.{is_joined, joined_mark}
use Rattle.parser.specs.WholeParser.{highest, is_mark, WholeParser}
use Rattle.ground.proofs.TestLaws.{either, and_left, and_right, in_between}

-- ---- parameters

set-none-above : (m n : ℕ) (l : List ℕ) (i x : ℕ) → none_above m (take n l) ≡ true → x ≤ m → none_above m (take n (set l i x)) ≡ true
set-none-above m zero l i x e h = refl
set-none-above m (suc n) [] i x e h = refl
set-none-above m (suc n) (y ∷ l) zero x e h = rw (le-leb x m h) (and_right (leb y m) (none_above m (take n l)) e)
set-none-above m (suc n) (y ∷ l) (suc i) x e h =
    rw (and_left (leb y m) (none_above m (take n l)) e) (set-none-above m n l i x (and_right (leb y m) (none_above m (take n l)) e) h)

-- one value more
next-none-above : (m n : ℕ) (l : List ℕ) (x : ℕ) → none_above m (take n l) ≡ true → x ≤ m → none_above m (take (suc n) (set l n x)) ≡ true
next-none-above m n [] x e h = refl
next-none-above m zero (y ∷ l) x e h = rw (le-leb x m h)
next-none-above m (suc n) (y ∷ l) x e h =
    rw (and_left (leb y m) (none_above m (take n l)) e) (next-none-above m n l x (and_right (leb y m) (none_above m (take n l)) e) h)

-- a higher bound
raise-none-above : (m k : ℕ) (l : List ℕ) → m ≤ k → none_above m l ≡ true → none_above k l ≡ true
raise-none-above m k [] h e = refl
raise-none-above m k (y ∷ l) h e =
    let low = leb-true y m (and_left (leb y m) (none_above m l) e) in
    rw (le-leb y k (omega arith)) (raise-none-above m k l h (and_right (leb y m) (none_above m l) e))

-- what is read is not above it
at-none-above : (m n : ℕ) (l : List ℕ) (i : ℕ) → none_above m (take n l) ≡ true → i < n → get_or l i 0 ≤ m
at-none-above m n [] i e h = omega arith
at-none-above m zero (y ∷ l) i e h = absurd (omega arith)
at-none-above m (suc n) (y ∷ l) zero e h = leb-true y m (and_left (leb y m) (none_above m (take n l)) e)
at-none-above m (suc n) (y ∷ l) (suc i) e h = at-none-above m n l i (and_right (leb y m) (none_above m (take n l)) e) (omega arith)

-- parameters that a whole parser has, by the greatest value
record Kept (m : ℕ) (q : Params) : Type 0 where
  few : q.separators ≤ 16
  small : none_above m (param_list q) ≡ true

appended-small : (m v d : ℕ) → 9999 ≤ m → v ≤ m → appended v d ≤ m
appended-small m v d h k = either (λ (x : ℕ). x ≤ m) (eqb v joined) (λ e. omega (arith, eqb-true v joined e)) (λ _. omega arith)

kept-digit : (m : ℕ) (q : Params) (d : ℕ) → 9999 ≤ m → Kept m q → Kept m (with_digit q d)
unfolding with_digit
kept-digit m q d h k =
    let i = q.separators in
    either (Kept m) (ltb i 16)
    (λ e.
    let l = ltb-true i 16 e in
    let v = at-none-above m (param_count q) q.values i k.small (omega arith) in
    record { few = k.few; small = set-none-above m (param_count q) q.values i _ k.small (appended-small m (get_or q.values i 0) d h v) })
    (λ e. k)

kept-joined : (q : Params) (x : ℕ) → Kept joined q → Kept joined (with_joined q x)
unfolding with_joined
kept-joined q x k =
    either (Kept joined) (joins q x)
    (λ _. record { few = k.few; small = set-none-above joined (param_count q) q.values q.separators joined k.small (le_refl joined) })
    (λ _. k)

with_joined-not : (q : Params) (x : ℕ) → joins q x ≡ false → with_joined q x ≡ q
unfolding with_joined
with_joined-not q x e = rw e

kept_next : (m : ℕ) (q : Params) (v : ℕ) → (q.separators < 15 → v ≤ m) → Kept m q → Kept m (with_next q v)
unfolding with_next
kept_next m q v h k =
    let i = q.separators in
    either (Kept m) (ltb i 15)
    (λ e.
    let l = ltb-true i 15 e in
    let now : param_count q ≡ i + 1 = omega arith in
    let then : min (i + 1 + 1) 16 ≡ suc (i + 1) = omega arith in
    record { few = omega arith; small = rw then (next-none-above m (i + 1) q.values v (rw now at k.small) (h l)) })
    (λ e. let all : param_count q ≡ 16 = omega (arith, k.few, ltb-false i 15 e) in record { few = omega arith; small = rw all at k.small })

-- ---- the mark

mark-joined : (m : ℕ) → is_mark m ≡ true → is_mark (joined_mark m) ≡ true
mark-joined m h =
    either (λ (x : ℕ). is_mark x ≡ true) (leb 0x80 m) (λ _. h)
    (λ e. let low : leb 0x80 (m + 0x80) ≡ true = le-leb 0x80 (m + 0x80) (omega arith) in
    let same : m + 0x80 - 0x80 ≡ m = omega arith in
    let was : (eqb m 0 || between 0x3C m 0x3F) ≡ true = rw e at h in
    rw (low, same) was)

joined-highest : (m : ℕ) → highest (joined_mark m) ≡ joined
joined-highest m =
    either (λ (x : ℕ). highest x ≡ joined) (leb 0x80 m) (λ e. rw e) (λ _. rw (le-leb 0x80 (m + 0x80) (omega arith)))

highest-joined : (m : ℕ) → highest m ≤ joined
highest-joined m = either (λ (x : ℕ). x ≤ joined) (is_joined m) (λ _. omega arith) (λ _. omega arith)

number-low : (m : ℕ) → 9999 ≤ highest m
number-low m = either (λ (x : ℕ). 9999 ≤ x) (is_joined m) (λ _. omega arith) (λ _. omega arith)

-- one byte of the parameters
record Read (m : ℕ) (q : Params) : Type 0 where
  mark : is_mark m ≡ true
  kept : Kept (highest m) q

marked : (m x : ℕ) (q : Params) → 0x3C ≤ x → x < 0x40 → Kept (highest m) q → Read (cond (is_joined m) (joined_mark x) x) q
marked m x q l u k =
    let high : leb 0x80 x ≡ false = lt-leb 0x80 x (omega arith) in
    let on : is_mark x ≡ true = rw (high, in_between 0x3C x 0x3F l (omega arith), or-true) in
    either (λ (n : ℕ). Read n q) (is_joined m)
    (λ e. record { mark = mark-joined x on; kept = rw (joined-highest) (rw e at k) })
    (λ e. record { mark = on; kept = rw high (rw e at k) })

module _ (s : Parser) (x : ℕ) (k : Read s.mark s.params) where
  abbrev bound : ℕ
  bound = highest s.mark

  abbrev q : Params
  q = s.params

  joining : joins q x ≡ true → Read (joined_mark s.mark) (with_byte q x)
  joining e =
      let colon = eqb-true x 0x3A (and_left (eqb x 0x3A) (ltb q.separators 16) e) in
      let low = raise-none-above bound joined (param_list q) (highest-joined s.mark) k.kept.small in
      let up : Kept joined q = record { few = k.kept.few; small = low } in
      let all : Kept joined (with_next (with_joined q x) joined) = kept_next joined (with_joined q x) joined (λ _. le_refl joined) (kept-joined q x up) in
      record { mark = mark-joined s.mark k.mark; kept = rw (joined-highest, colon) (rw colon at all) }

  next : joins q x ≡ false → q.separators < 15 → opened x ≤ bound
  next e l =
      either (λ (v : ℕ). v ≤ bound) (eqb x 0x3A)
      (λ c. let none : ltb q.separators 16 ≡ false = rw c at e in omega (arith, ltb-false q.separators 16 none))
      (λ _. zero-le)

  not-joining : joins q x ≡ false → Read s.mark (with_byte q x)
  not-joining e =
      let same = with_joined-not q x e in
      record {
        mark = k.mark;
        kept = either (Kept bound) (ltb x 0x3A)
            (λ _. kept-digit bound q (x - 0x30) (number-low s.mark) k.kept)
            (λ _. rw same (kept_next bound q (opened x) (next e) k.kept));
      }

  read : Read (mark_after s x) (with_byte q x)
  read = either (λ (m : ℕ). Read m (with_byte q x)) (joins q x) joining not-joining

-- ---- the parser

-- what is no control is read as 20 to 7F
pub lowered-low : (b : ℕ) → between 0x80 b 0x9F ≡ false → ltb b 0x20 ≡ false → 0x20 ≤ lowered b
lowered-low b off e =
    either (λ (x : ℕ). 0x20 ≤ x) (leb 0x80 b) (λ h. let m : leb b 0x9F ≡ false = rw h at off in omega (arith, leb-false b 0x9F m)) (λ _. ltb-false b 0x20 e)

module _ (s : Parser) (w : WholeParser s) where
  -- a phase with no intermediate
  idle : (p : Phase) → intermediates p ≡ 0 → WholeParser (in_phase p s)
  idle p e = record { few = w.few; small = w.small; first = rw e; second = rw e; mark = w.mark }

  empty : (p : Phase) → intermediates p ≡ 0 → WholeParser (cleared p)
  empty p e = record { few = omega arith; small = refl; first = rw e; second = rw e; mark = refl }

  -- one intermediate was collected
  one-escape : is_phase EscapeOne s.phase ≡ true → intermediates s.phase ≡ 1
  one-escape e = rw (eqb-true (phase_number s.phase) 2 e)

  one-csi : is_phase CsiOne s.phase ≡ true → intermediates s.phase ≡ 1
  one-csi e = rw (eqb-true (phase_number s.phase) 7 e)

  module _ (b : ℕ) where
    record Fine (t : Transition) : Type 0 where
      whole : WholeParser (kept s t.next t.op b)

    fine-to : (p : Phase) (o : Op) → WholeParser (kept s p o b) → Fine (to p o)
    fine-to p o h = record { whole = h }

    fine-either : (t : Bool) {x y : Transition} → (t ≡ true → Fine x) → (t ≡ false → Fine y) → Fine (cond t x y)
    fine-either t f g = either Fine t f g

    -- an intermediate is 20 to 2F
    intermediate : 0x20 ≤ lowered b → ltb (lowered b) 0x30 ≡ true → between 0x20 (lowered b) 0x2F ≡ true
    intermediate low e = in_between 0x20 (lowered b) 0x2F low (omega (arith, ltb-true))

    collect-first : (p : Phase) → intermediates p ≡ 1 → 0x20 ≤ lowered b → ltb (lowered b) 0x30 ≡ true → WholeParser (collected p s (lowered b))
    collect-first p n low e = record { few = w.few; small = w.small; first = rw n (intermediate low e); second = rw n; mark = w.mark }

    collect-second : (p : Phase) → intermediates p ≡ 2 → intermediates s.phase ≡ 1 → 0x20 ≤ lowered b → ltb (lowered b) 0x30 ≡ true
        → WholeParser (collected p s (lowered b))
    collect-second p n o low e =
        let before : between 0x20 s.first 0x2F ≡ true = rw o at w.first in
        record { few = w.few; small = w.small; first = rw n before; second = rw n (intermediate low e); mark = w.mark }

    gather : WholeParser (gathered CsiParam s (lowered b))
    gather =
        let r = read s (lowered b) (record { mark = w.mark; kept = record { few = w.few; small = w.small } }) in
        record { few = r.kept.few; small = r.kept.small; first = refl; second = refl; mark = r.mark }

    mark-whole : ltb (lowered b) 0x3C ≡ false → ltb (lowered b) 0x40 ≡ true → WholeParser (with_mark CsiParam s (lowered b))
    mark-whole n e =
        let x = lowered b in
        let r = marked s.mark x s.params (ltb-false x 0x3C n) (ltb-true x 0x40 e) (record { few = w.few; small = w.small }) in
        record { few = r.kept.few; small = r.kept.small; first = refl; second = refl; mark = r.mark }

    pub decode-whole : WholeParser (decode s b).parser
    unfolding decode transition
    decode-whole =
        let f : Fine (transition s.phase b) =
        search (fine-either, fine-to, idle, empty, collect-first, collect-second, one-escape, one-csi, lowered-low, gather, mark-whole) depth 40 fits 10000 in
        f.whole
