-- Tab flags: bit k + 1 of a byte is bit k of its half, so what holds of every bit is shown by halves; a column's flag is one bit of one byte,
-- and a change of that bit leaves the other flags; the search for the next tab goes column by column.
use mathlib.Core.Path.{◌≡◌, refl, sym, ◌∙◌}
use mathlib.Core.Bool.{Bool, true, false, cond, not, ◌&&◌, ◌||◌, false≢true}
use mathlib.Core.List.{[], ◌∷◌}
use mathlib.Core.Logic.{⊎_elim}
use Prim.Native.Nat.{ℕ, zero, suc, ◌+◌, ◌-◌, ◌/◌, ◌%◌, ◌≤◌, ◌<◌, ◌^◌}
use native.Mathlib.Nat.{pow-succ', div-div-eq-div-mul, add-div_right, zero-div}
use native.Mathlib.Numerals.{add-one}
use native.Mathlib.Omega.{arith}
use lib.Dec.{eqb, eqb-zero-suc, eqb-suc-zero, eqb-suc-suc}
use lib.ListN.{length, length-set, get_or-replicate}
use lib.Pow.{pow_pos}
use lib.Seq.{get_or-set_same, get_or-set_other}
use borrow.Author.Tests.{eq-eqb, ne_eqb, eqb-true, eqb-false}
use lib.Bits.{bit_and, bit_or, or_add_and}
use Rattle.std.proofs.lemmas.Nat.{and_comm, and-not, pow_below}
use Rattle.std.proofs.lemmas.Nat.Bits.{and_pow}
use Rattle.std.proofs.lemmas.List.{set-get_or}
use Rattle.cells.specs.Sets.{has_bit}
use Rattle.ground.proofs.TestLaws.{either, at-number}
use Rattle.ground.proofs.ListLaws.{known, split-eq}
use Rattle.device.specs.declared.tabs.Tabs.{Tabs}
use Rattle.device.specs.Tabs.{tab_byte, is_tab, with_byte, with_tab, without_tab, no_tabs, next_among, every_eighth, tabs_up_to}

-- ---- the bits of a byte

half-bit : (m k : ℕ) → has_bit m (suc k) ≡ has_bit (m / 2) k
half-bit m k = rw (pow-succ' 2 k, ← div-div-eq-div-mul m 2 (2 ^ k))

-- a weight can be added where it is not there
pub weight-fits : (b n k : ℕ) → b < 2 ^ n → k < n → has_bit b k ≡ false → b + 2 ^ k < 2 ^ n
weight-fits b zero k h l e = absurd (omega arith)
weight-fits b (suc n) zero h l e = omega (arith, pow-succ' 2 n, eqb-false (b / 2 ^ 0 % 2) 1 e)
weight-fits b (suc n) (suc k) h l e =
    let half = weight-fits (b / 2) n k (omega (arith, pow-succ' 2 n)) (omega arith) (sym (half-bit b k) ∙ e) in
    omega (arith, pow-succ' 2 n, pow-succ' 2 k)

-- and taken where it is
pub weight-there : (b k : ℕ) → has_bit b k ≡ true → 2 ^ k ≤ b
weight-there b zero e = omega (arith, eqb-true (b / 2 ^ 0 % 2) 1 e)
weight-there b (suc k) e = let half = weight-there (b / 2) k (sym (half-bit b k) ∙ e) in omega (arith, pow-succ' 2 k)

bit_added : (b k : ℕ) → has_bit b k ≡ false → (j : ℕ) → has_bit (b + 2 ^ k) j ≡ cond (eqb j k) true (has_bit b j)
bit_added b zero e zero = eq-eqb ((b + 2 ^ 0) / 2 ^ 0 % 2) 1 (omega (arith, eqb-false (b / 2 ^ 0 % 2) 1 e))
bit_added b zero e (suc j) =
    let same : (b + 2 ^ 0) / 2 ≡ b / 2 = omega (arith, eqb-false (b / 2 ^ 0 % 2) 1 e) in
    rw (half-bit (b + 2 ^ 0) j, half-bit b j, same, eqb-suc-zero j)
bit_added b (suc k) e zero =
    let same : (b + 2 ^ suc k) / 2 ^ 0 % 2 ≡ b / 2 ^ 0 % 2 = omega (arith, pow-succ' 2 k) in
    rw (same, eqb-zero-suc k)
bit_added b (suc k) e (suc j) =
    let same : (b + 2 ^ suc k) / 2 ≡ b / 2 + 2 ^ k = omega (arith, pow-succ' 2 k) in
    rw (half-bit (b + 2 ^ suc k) j, half-bit b j, same, eqb-suc-suc j k) (bit_added (b / 2) k (sym (half-bit b k) ∙ e) j)

bit-taken : (b k : ℕ) → has_bit b k ≡ true → (j : ℕ) → has_bit (b - 2 ^ k) j ≡ cond (eqb j k) false (has_bit b j)
bit-taken b k e j =
    let back : b - 2 ^ k + 2 ^ k ≡ b = omega (arith, weight-there b k e) in
    let more : b / 2 ^ k ≡ (b - 2 ^ k) / 2 ^ k + 1 = rw back at (add-div_right (b - 2 ^ k) (pow_pos k)) in
    let gone : has_bit (b - 2 ^ k) k ≡ false = ne_eqb ((b - 2 ^ k) / 2 ^ k % 2) 1 (omega (arith, more, eqb-true (b / 2 ^ k % 2) 1 e)) in
    either (λ (x : Bool). has_bit (b - 2 ^ k) j ≡ x) (eqb j k) (λ f. rw (eqb-true j k f) gone) (λ f. sym (rw (back, f) at (bit_added (b - 2 ^ k) k gone j)))

-- ---- a bit is read by `&`, set by `|` and cleared by `& !`

and_there : (b k : ℕ) → has_bit b k ≡ true → bit_and b (2 ^ k) ≡ 2 ^ k
and_there b k e = let one : b / 2 ^ k % 2 ≡ 1 = eqb-true (b / 2 ^ k % 2) 1 e in rw (and_pow b k, one) (omega arith)

and_absent : (b k : ℕ) → has_bit b k ≡ false → bit_and b (2 ^ k) ≡ 0
and_absent b k e = let none : b / 2 ^ k % 2 ≡ 0 = omega (arith, eqb-false (b / 2 ^ k % 2) 1 e) in rw (and_pow b k, none) (omega arith)

pub bit_read : (b k : ℕ) → not (eqb (bit_and b (2 ^ k)) 0) ≡ has_bit b k
bit_read b k =
    ⊎_elim (λ e. rw (and_there b k e, ne_eqb (2 ^ k) 0 (omega (arith, pow_pos k))) (sym e)) (λ e. rw (and_absent b k e) (sym e)) (known (has_bit b k))

module _ (t : Tabs) (c : ℕ) where
  abbrev weight : ℕ
  weight = 2 ^ ((c - 1) % 8)

  -- the byte as it is
  kept : with_byte t c (tab_byte t c) ≡ t
  kept = rw set-get_or

  pub tab_ored : with_byte t c (bit_or (tab_byte t c) weight) ≡ with_tab t c
  unfolding with_tab
  tab_ored =
      let both = or_add_and (tab_byte t c) weight in
      either (λ (x : Tabs). with_byte t c (bit_or (tab_byte t c) weight) ≡ x) (is_tab t c)
      (λ e. let same : bit_or (tab_byte t c) weight ≡ tab_byte t c = omega (arith, both, and_there (tab_byte t c) ((c - 1) % 8) e) in rw same kept)
      (λ e. let more : bit_or (tab_byte t c) weight ≡ tab_byte t c + weight = omega (arith, both, and_absent (tab_byte t c) ((c - 1) % 8) e) in rw more)

  pub tab_masked : tab_byte t c < 256 → with_byte t c (bit_and (tab_byte t c) (255 - weight)) ≡ without_tab t c
  unfolding without_tab
  tab_masked h =
      let both = and-not 8 weight (tab_byte t c) (pow_below ((c - 1) % 8) 8 (omega arith)) h in
      let left : bit_and (tab_byte t c) (255 - weight) + bit_and (tab_byte t c) weight ≡ tab_byte t c =
      rw (and_comm (tab_byte t c) (255 - weight), and_comm (tab_byte t c) weight) both in
      either (λ (x : Tabs). with_byte t c (bit_and (tab_byte t c) (255 - weight)) ≡ x) (is_tab t c)
      (λ e. let less : bit_and (tab_byte t c) (255 - weight) ≡ tab_byte t c - weight = omega (arith, left, and_there (tab_byte t c) ((c - 1) % 8) e) in rw less)
      (λ e. let same : bit_and (tab_byte t c) (255 - weight) ≡ tab_byte t c = omega (arith, left, and_absent (tab_byte t c) ((c - 1) % 8) e) in rw same kept)

-- ---- the flags of the columns

-- a byte in which only a column's bit changed
flag-changed : (t : Tabs) (c b : ℕ) (v : Bool) → length t.flags ≡ 10 → 1 ≤ c → c ≤ 80
    → ((j : ℕ) → has_bit b j ≡ cond (eqb j ((c - 1) % 8)) v (has_bit (tab_byte t c) j))
    → (d : ℕ) → 1 ≤ d → is_tab (with_byte t c b) d ≡ cond (eqb d c) v (is_tab t d)
flag-changed t c b v ten low high bits d ld =
    let here = get_or-set_same t.flags ((c - 1) / 8) b 0 (omega arith) in
    either (λ (x : Bool). is_tab (with_byte t c b) d ≡ x) (eqb d c)
    (λ e. rw (eqb-true d c e, here, bits ((c - 1) % 8), eq-eqb ((c - 1) % 8) ((c - 1) % 8) refl))
    (λ e. ⊎_elim
    (λ byte. rw (byte, here, bits ((d - 1) % 8), ne_eqb ((d - 1) % 8) ((c - 1) % 8) (omega (arith, byte, eqb-false d c e))))
    (λ other. rw (get_or-set_other t.flags ((c - 1) / 8) ((d - 1) / 8) b 0 other))
    (split-eq ((d - 1) / 8) ((c - 1) / 8)))

-- a flag that is already so
flag-kept : (t : Tabs) (c d : ℕ) (v : Bool) → is_tab t c ≡ v → is_tab t d ≡ cond (eqb d c) v (is_tab t d)
flag-kept t c d v e = either (λ (x : Bool). is_tab t d ≡ x) (eqb d c) (λ f. rw (eqb-true d c f) e) (λ f. refl)

-- set or left, cleared or left: as a test chooses, and as a Boolean
chosen : (a b : Bool) → (cond a true b ≡ (a || b)) × (cond a false b ≡ (not a && b))
chosen true b = (refl, refl)
chosen false b = (refl, refl)

module _ (t : Tabs) (c : ℕ) where
  abbrev Long : Tabs → Type 0
  Long x = length x.flags ≡ length t.flags

  pub set_long : length (with_tab t c).flags ≡ length t.flags
  unfolding with_tab
  set_long = either Long (is_tab t c) (λ e. refl) (λ e. length-set t.flags ((c - 1) / 8) _)

  pub clear-long : length (without_tab t c).flags ≡ length t.flags
  unfolding without_tab
  clear-long = either Long (is_tab t c) (λ e. length-set t.flags ((c - 1) / 8) _) (λ e. refl)

  module _ (d : ℕ) (ten : length t.flags ≡ 10) (low : 1 ≤ c) (high : c ≤ 80) (ld : 1 ≤ d) where
    -- HTS
    pub tab-set : is_tab (with_tab t c) d ≡ (eqb d c || is_tab t d)
    unfolding with_tab
    tab-set =
        either (λ (x : Tabs). is_tab x d ≡ cond (eqb d c) true (is_tab t d)) (is_tab t c) (flag-kept t c d true)
        (λ e. flag-changed t c _ true ten low high (bit_added (tab_byte t c) ((c - 1) % 8) e) d ld)
        ∙ (chosen (eqb d c) (is_tab t d)).0

    -- TBC 0
    pub tab-cleared : is_tab (without_tab t c) d ≡ (not (eqb d c) && is_tab t d)
    unfolding without_tab
    tab-cleared =
        either (λ (x : Tabs). is_tab x d ≡ cond (eqb d c) false (is_tab t d)) (is_tab t c)
        (λ e. flag-changed t c _ false ten low high (bit-taken (tab_byte t c) ((c - 1) % 8) e) d ld) (flag-kept t c d false)
        ∙ (chosen (eqb d c) (is_tab t d)).1

-- TBC 3
pub tab-none : (d : ℕ) → d ≤ 80 → is_tab no_tabs d ≡ false
tab-none d h = rw (get_or-replicate {A = ℕ} 10 ((d - 1) / 8) 0 0 (omega arith), zero-div (2 ^ ((d - 1) % 8)))

pub fresh-tabs : tabs_up_to 80 every_eighth ≡ 9 ∷ 17 ∷ 25 ∷ 33 ∷ 41 ∷ 49 ∷ 57 ∷ 65 ∷ 73 ∷ []
unfolding tabs_up_to
fresh-tabs = refl

-- ---- the next tab

-- one column of the search
pub next-step : (t : Tabs) (at last : ℕ) → at < last
    → next_among (last - at) t at ≡ cond (is_tab t (at + 1)) (at + 1) (next_among (last - (at + 1)) t (at + 1))
unfolding next_among
next-step t at last h = let less : last - at ≡ suc (last - suc at) = omega arith in rw (add-one, less)

-- the search ends at the last column
pub next-none : (t : Tabs) (at last : ℕ) → last ≤ at → next_among (last - at) t at ≡ at
unfolding next_among
next-none t at last h = let none : last - at ≡ 0 = omega arith in rw none

pub next_low : (n : ℕ) (t : Tabs) (c : ℕ) → c ≤ next_among n t c
unfolding next_among
next_low zero t c = omega arith
next_low (suc n) t c = either (λ (x : ℕ). c ≤ x) (is_tab t (suc c)) (λ e. omega arith) (λ e. omega (arith, next_low n t (suc c)))

pub next-high : (n : ℕ) (t : Tabs) (c : ℕ) → next_among n t c ≤ c + n
unfolding next_among
next-high zero t c = omega arith
next-high (suc n) t c = either (λ (x : ℕ). x ≤ c + suc n) (is_tab t (suc c)) (λ e. omega arith) (λ e. omega (arith, next-high n t (suc c)))

-- it is right of the column it starts at
pub next-right : (n : ℕ) (t : Tabs) (c : ℕ) → 1 ≤ n → c < next_among n t c
unfolding next_among
next-right zero t c l = absurd (omega arith)
next-right (suc n) t c l = either (λ (x : ℕ). c < x) (is_tab t (suc c)) (λ e. omega arith) (λ e. next_low n t (suc c))

-- no flag is set before it
pub next-first : (n : ℕ) (t : Tabs) (c d : ℕ) → c < d → d < next_among n t c → is_tab t d ≡ false
unfolding next_among
next-first zero t c d l = λ h. absurd (omega arith)
next-first (suc n) t c d l =
    either (λ (x : ℕ). d < x → is_tab t d ≡ false) (is_tab t (suc c))
    (λ e h. absurd (omega arith)) (λ e h. at-number (λ x. is_tab t x ≡ false) d (suc c) e (λ q. next-first n t (suc c) d (omega (arith, q)) h))

-- where none is set it is the last column
pub next_last : (n : ℕ) (t : Tabs) (c : ℕ) → is_tab t (next_among n t c) ≡ false → next_among n t c ≡ c + n
unfolding next_among
next_last zero t c = λ e. omega arith
next_last (suc n) t c =
    either (λ (x : ℕ). is_tab t x ≡ false → x ≡ c + suc n) (is_tab t (suc c))
    (λ e f. absurd (false≢true (sym f ∙ e))) (λ e f. omega (arith, next_last n t (suc c) f))
