-- The search for the next tab: what a look at eight together tells, one turn of the search, and that it finds in at most 24 looks what the
-- search column by column finds.
use mathlib.Core.Path.{◌≡◌, refl, sym, ap, ◌∙◌}
use mathlib.Core.Bool.{Bool, true, false, cond, not, ◌||◌, false≢true}
use mathlib.Core.List.{[], ◌∷◌}
use Prim.Native.Nat.{ℕ, zero, suc, ◌+◌, ◌-◌, ◌*◌, ◌/◌, ◌%◌, ◌^◌, ◌≤◌, ◌<◌, min}
use native.Mathlib.Nat.{add_assoc, zero-add, add-zero, add-suc, suc-add, zero-div}
use native.Mathlib.Numerals.{add-one}
use native.Mathlib.Omega.{arith}
use lib.Dec.{eqb}
use lib.ListN.{get_or}
use borrow.Author.Tests.{eqb-true, eqb-false}
use Rattle.cells.specs.Sets.{has_bit}
use Rattle.cells.proofs.BitLaws.{bits-own, bits-ext, bits_none}
use Rattle.ground.proofs.TestLaws.{either, or_left, or_right}
use Rattle.device.specs.declared.tabs.Tabs.{Tabs}
use Rattle.device.specs.declared.tabs.Found.{Found}
use Rattle.device.specs.Tabs.{is_tab, next_among, next_tab}
use Rattle.device.proofs.TabLaws.{next_low}
use Rattle.device.specs.TabSearch.{after, ends_at, any_among, flag_by_flag, eight_by_eight, searched, EverySearch}

-- ---- a look at eight together

-- none of them, flag by flag
none_each : (n : ℕ) (t : Tabs) (c : ℕ) → any_among n t c ≡ false → (k : ℕ) → k < n → is_tab t (suc (c + k)) ≡ false
unfolding any_among
none_each zero t c e k l = absurd (omega arith)
none_each (suc n) t c e zero l = rw (add-zero c) (or_left (is_tab t (suc c)) (any_among n t (suc c)) e)
none_each (suc n) t c e (suc k) l =
    rw (add-suc c k, ← suc-add c k) (none_each n t (suc c) (or_right (is_tab t (suc c)) (any_among n t (suc c)) e) k (omega arith))

each_none : (n : ℕ) (t : Tabs) (c : ℕ) → ((k : ℕ) → k < n → is_tab t (suc (c + k)) ≡ false) → any_among n t c ≡ false
unfolding any_among
each_none zero t c h = refl
each_none (suc n) t c h =
    let first : is_tab t (suc c) ≡ false = rw add-zero at (h 0 (omega arith)) in
    rw (first, each_none n t (suc c) (λ k l. rw (suc-add c k, ← add-suc c k) (h (suc k) (omega arith))))

module _ (t : Tabs) (c : ℕ) (begins : c % 8 ≡ 0) where
  abbrev byte : ℕ
  byte = get_or t.flags (c / 8) 0

  -- the flags of an eight are the bits of its byte
  bit-of : (k : ℕ) → k < 8 → is_tab t (suc (c + k)) ≡ has_bit byte k
  bit-of k l =
      let at : (suc (c + k) - 1) / 8 ≡ c / 8 = omega arith in
      let which : (suc (c + k) - 1) % 8 ≡ k = omega arith in
      rw (at, which)

  no-bit : byte ≡ 0 → any_among 8 t c ≡ false
  no-bit e = each_none 8 t c (λ k l. rw (bit-of k l, e, zero-div (2 ^ k)))

  some-bit : byte < 256 → (byte ≡ 0 → ⊥) → (any : Bool) → any_among 8 t c ≡ any → any ≡ true
  some-bit low not-zero true e = refl
  some-bit low not-zero false e =
      absurd (not-zero (sym (bits-own 8 byte low)
      ∙ bits-ext 8 (has_bit byte) (λ k. false) (λ k l. sym (bit-of k l) ∙ none_each 8 t c e k l)
      ∙ bits_none 8))

  -- a byte is not 0 exactly if one of its flags is set
  pub eight-any : byte < 256 → not (eqb byte 0) ≡ any_among 8 t c
  eight-any low = go (eqb byte 0) refl
    where
      go : (z : Bool) → eqb byte 0 ≡ z → not z ≡ any_among 8 t c
      go true e = sym (no-bit (eqb-true byte 0 e))
      go false e = sym (some-bit low (eqb-false byte 0 e) (any_among 8 t c) refl)

-- ---- one turn of the search

pub after_none : (f : Found) → after 0 f ≡ f
after_none f = rw (zero-add f.looks)

pub after_more : (m n : ℕ) (f : Found) → after m (after n f) ≡ after (m + n) f
after_more m n f = rw (add_assoc m n f.looks)

-- n flags and m eights from a column on
abbrev from : ℕ → ℕ → Tabs → ℕ → Found
from n m t c = flag_by_flag n t c (eight_by_eight m t (c + n))

-- the flag of the next column, and the search from there
abbrev pub turn : Tabs → ℕ → Found
turn t c = after 1 (cond (is_tab t (c + 1)) (ends_at (c + 1)) (searched t (c + 1)))

from-flag : (n m : ℕ) (t : Tabs) (c : ℕ) → from (suc n) m t c ≡ after 1 (cond (is_tab t (c + 1)) (ends_at (c + 1)) (from n m t (c + 1)))
unfolding flag_by_flag
from-flag n m t c = rw (add-one c, suc-add c n, add-suc c n)

module _ (t : Tabs) (c : ℕ) where
  -- inside an eight
  pub turn-flag : c < 80 → (c % 8 ≡ 0 → ⊥) → searched t c ≡ turn t c
  turn-flag l inside =
      let n : (80 - c) % 8 ≡ suc ((80 - (c + 1)) % 8) = omega arith in
      let m : (80 - c) / 8 ≡ (80 - (c + 1)) / 8 = omega arith in
      rw (n, m) (from-flag ((80 - (c + 1)) % 8) ((80 - (c + 1)) / 8) t c)

  module _ (l : c < 80) (begins : c % 8 ≡ 0) where
    at-eight : searched t c ≡ eight_by_eight (suc ((80 - (c + 1)) / 8)) t c
    unfolding flag_by_flag
    at-eight =
        let n : (80 - c) % 8 ≡ 0 = omega arith in
        let m : (80 - c) / 8 ≡ suc ((80 - (c + 1)) / 8) = omega arith in
        rw (n, m, add-zero c)

    -- where an eight begins that has no tab
    pub turn-empty : any_among 8 t c ≡ false → searched t c ≡ after 1 (searched t (c + 8))
    unfolding eight_by_eight flag_by_flag
    turn-empty e =
        let n : (80 - (c + 8)) % 8 ≡ 0 = omega arith in
        let m : (80 - (c + 8)) / 8 ≡ (80 - (c + 1)) / 8 = omega arith in
        rw (at-eight, e, n, m, add-zero (c + 8))

    -- and one that has
    pub turn-some : any_among 8 t c ≡ true → searched t c ≡ after 1 (turn t c)
    unfolding eight_by_eight
    turn-some e =
        let n : (80 - (c + 1)) % 8 ≡ 7 = omega arith in
        rw (at-eight, e, n) (ap (after 1) (from-flag 7 ((80 - (c + 1)) / 8) t c))

    -- either, with n looks before
    pub turn-eight : (n : ℕ) → after (n + 1) (cond (not (any_among 8 t c)) (searched t (c + 8)) (turn t c)) ≡ after n (searched t c)
    turn-eight n =
        sym (after_more n 1 _)
        ∙ ap (after n) (go (any_among 8 t c) refl)
      where
        go : (b : Bool) → any_among 8 t c ≡ b → after 1 (cond (not b) (searched t (c + 8)) (turn t c)) ≡ searched t c
        go true e = sym (turn-some e)
        go false e = sym (turn-empty e)

  pub turn_last : 80 ≤ c → searched t c ≡ ends_at c
  unfolding eight_by_eight flag_by_flag
  turn_last l =
      let none : 80 - c ≡ 0 = omega arith in
      rw (none, add-zero c)

-- ---- the same answers

-- n flags, and what the rest finds
near_same : (n m : ℕ) (t : Tabs) (c : ℕ) (rest : Found) → rest.column ≡ next_among m t (c + n)
    → (flag_by_flag n t c rest).column ≡ next_among (n + m) t c
unfolding flag_by_flag next_among
near_same zero m t c rest e = rw (zero-add m) (e ∙ ap (next_among m t) (add-zero c))
near_same (suc n) m t c rest e =
    let more = near_same n m t (suc c) rest (e ∙ ap (next_among m t) (add-suc c n ∙ sym (suc-add c n))) in
    rw (suc-add n m) (either (λ (f : Found). f.column ≡ cond (is_tab t (suc c)) (suc c) (next_among (n + m) t (suc c))) (is_tab t (suc c)) (λ h. rw h) (λ h. rw h more))

-- n columns with no tab are passed over
empty-same : (n m : ℕ) (t : Tabs) (c : ℕ) → any_among n t c ≡ false → next_among (n + m) t c ≡ next_among m t (c + n)
unfolding any_among next_among
empty-same zero m t c e = rw (zero-add m, add-zero c)
empty-same (suc n) m t c e =
    rw (suc-add n m, or_left (is_tab t (suc c)) (any_among n t (suc c)) e, add-suc c n, ← suc-add c n)
    (empty-same n m t (suc c) (or_right (is_tab t (suc c)) (any_among n t (suc c)) e))

far-same : (n : ℕ) (t : Tabs) (c : ℕ) → (eight_by_eight n t c).column ≡ next_among (8 * n) t c
unfolding eight_by_eight next_among
far-same zero t c = refl
far-same (suc n) t c =
    let more = far-same n t (c + 8) in
    let all : 8 * suc n ≡ 8 + 8 * n = omega arith in
    rw all (either (λ (f : Found). f.column ≡ next_among (8 + 8 * n) t c) (any_among 8 t c)
    (λ _. near_same 8 (8 * n) t c (eight_by_eight n t (c + 8)) more)
    (λ e. more ∙ sym (empty-same 8 (8 * n) t c e)))

-- ---- at most 24 looks

near-few : (n : ℕ) (t : Tabs) (c : ℕ) (rest : Found) → (flag_by_flag n t c rest).looks ≤ n + rest.looks
unfolding flag_by_flag
near-few zero t c rest = omega arith
near-few (suc n) t c rest =
    either (λ (f : Found). 1 + f.looks ≤ suc n + rest.looks) (is_tab t (suc c)) (λ e. omega arith) (λ e. omega (arith, near-few n t (suc c) rest))

-- flags of which one is set: what follows them is not looked at
some-few : (n : ℕ) (t : Tabs) (c : ℕ) (rest : Found) → any_among n t c ≡ true → (flag_by_flag n t c rest).looks ≤ n
unfolding flag_by_flag any_among
some-few zero t c rest = λ e. absurd (false≢true e)
some-few (suc n) t c rest =
    either (λ (f : Found). (is_tab t (suc c) || any_among n t (suc c)) ≡ true → 1 + f.looks ≤ suc n) (is_tab t (suc c))
    (λ h e. omega arith) (λ h e. omega (arith, some-few n t (suc c) rest (rw h at e)))

far-few : (n : ℕ) (t : Tabs) (c : ℕ) → (eight_by_eight n t c).looks ≤ n + 8
unfolding eight_by_eight
far-few zero t c = omega arith
far-few (suc n) t c =
    either (λ (f : Found). 1 + f.looks ≤ suc n + 8) (any_among 8 t c)
    (λ e. omega (arith, some-few 8 t c (eight_by_eight n t (c + 8)) e)) (λ e. omega (arith, far-few n t (c + 8)))

pub every-search : EverySearch
every-search t c = record {
  same =
      let far = eight_by_eight ((80 - c) / 8) t (c + (80 - c) % 8) in
      let all : (80 - c) % 8 + 8 * ((80 - c) / 8) ≡ 80 - c = omega arith in
      rw all at (near_same ((80 - c) % 8) (8 * ((80 - c) / 8)) t c far (far-same ((80 - c) / 8) t (c + (80 - c) % 8)));
  few =
      let far = eight_by_eight ((80 - c) / 8) t (c + (80 - c) % 8) in
      omega (arith, near-few ((80 - c) % 8) t c far, far-few ((80 - c) / 8) t (c + (80 - c) % 8));
}

-- the looks before what is left of a search
pub so-few : (t : Tabs) (c n : ℕ) (f : Found) → after n f ≡ searched t c → n ≤ 24
so-few t c n f e = omega (arith, ap (λ (g : Found). g.looks) e, (every-search t c).few)

-- 24 are taken from column 1 where the only tab is in column 80
pub all-looks : searched (record { flags = 0 ∷ 0 ∷ 0 ∷ 0 ∷ 0 ∷ 0 ∷ 0 ∷ 0 ∷ 0 ∷ 128 ∷ [] }) 1 ≡ record { column = 80; looks = 24 }
unfolding flag_by_flag eight_by_eight any_among
all-looks = refl

-- ---- held to a stop

-- of the search to a later column, up to a column before that
cut : (n k : ℕ) (t : Tabs) (c : ℕ) → min (c + n) (next_among (n + k) t c) ≡ next_among n t c
unfolding next_among
cut zero k t c = omega (arith, next_low (0 + k) t c)
cut (suc n) k t c =
    rw (suc-add n k)
    (either (λ (x : ℕ). min (c + suc n) x ≡ next_among (suc n) t c) (is_tab t (suc c))
    (λ e. rw e (omega arith))
    (λ e. rw (e, add-suc c n, ← suc-add c n) (cut n k t (suc c))))

pub search-min : (t : Tabs) (c last : ℕ) → c < last → last ≤ 80 → min (searched t c).column last ≡ next_tab t c last
search-min t c last l h =
    let here : c + (last - c) ≡ last = omega arith in
    let all : (last - c) + (80 - last) ≡ 80 - c = omega arith in
    let found = (every-search t c).same in
    let same : min last (next_among (80 - c) t c) ≡ next_among (last - c) t c = rw (here, all) at (cut (last - c) (80 - last) t c) in
    rw found (omega (arith, same))
