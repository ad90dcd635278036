-- Rows that are known to have changed: the test on the bits, and that a scroll of such rows and a put into one of them add none.
use mathlib.Core.Path.{◌≡◌, refl, sym, ap, ◌∙◌}
use mathlib.Core.Bool.{Bool, true, false, false≢true}
use mathlib.Core.List.{List, []}
use mathlib.Core.Logic.{◌⊎◌, inl, inr, ⊎_elim}
use Prim.Native.Nat.{ℕ, zero, suc, ◌+◌, ◌-◌, ◌*◌, ◌/◌, ◌^◌, ◌≤◌, ◌<◌}
use native.Mathlib.Nat.{pow-suc, div-div-eq-div-mul, one-mul, zero-mul}
use native.Mathlib.Omega.{arith}
use lib.Dec.{eqb}
use lib.Bits.{bit_or, bit_and, and_mask}
use lib.Pow.{pow_pos, pow-add}
use lib.ListN.{length, take, drop_of_length-le}
use borrow.Author.Tests.{eq-eqb, ne_eqb}
use Rattle.ground.proofs.ListLaws.{known, split-lt, split-eq}
use Rattle.ground.proofs.TestLaws.{and_left, and_right}
use Rattle.cells.specs.Rows.{row, differs}
use Rattle.cells.specs.Sets.{bits_of, has_bit, changed}
use Rattle.cells.specs.declared.runs.Pen.{Pen}
use Rattle.cells.specs.Runs.{pen_word}
use Rattle.cells.proofs.Differing.{differs-self}
use Rattle.cells.proofs.ChangeLaws.{changed-more}
use Rattle.cells.proofs.BitLaws.{bits-lt, bits-ext, bits-mod, or-within}
use Rattle.page.specs.declared.Edit.TheVariants.{Put, ScrollUp}
use Rattle.page.specs.Edits.{applied}
use Rattle.page.proofs.EditLaws.{applied-row}
use Rattle.scrolling.specs.Lines.{line_byte, all_known}
use Rattle.scrolling.proofs.ScrollLaws.{up-within, up-outside, put_other}

-- ---- the test

-- all bits of a number are those of its rows
bits-all : (m t c : ℕ) → eqb (bits_of c (λ j. has_bit m (t + j))) (2 ^ c - 1) ≡ all_known m t c
unfolding bits_of all_known
bits-all m t zero = refl
bits-all m t (suc c) =
    let x : ℕ = bits_of c (λ j. has_bit m (t + j)) in
    let small : bits_of c (λ j. has_bit m (t + j)) < 2 ^ c = bits-lt c (λ j. has_bit m (t + j)) in
    let double : 2 ^ suc c ≡ 2 ^ c * 2 = pow-suc 2 c in
    let some : 0 < 2 ^ c = pow_pos c in
    ⊎_elim
    (λ (yes' : has_bit m (t + c) ≡ true). rw (yes', one-mul) (⊎_elim
    (λ (e : x ≡ 2 ^ c - 1). eq-eqb (2 ^ c + x) (2 ^ suc c - 1) (omega arith) ∙ sym (eq-eqb x (2 ^ c - 1) e))
    (λ (ne : x ≡ 2 ^ c - 1 → ⊥). ne_eqb (2 ^ c + x) (2 ^ suc c - 1) (λ e. ne (omega arith)) ∙ sym (ne_eqb x (2 ^ c - 1) ne))
    (split-eq x (2 ^ c - 1)) ∙ bits-all m t c))
    (λ (no' : has_bit m (t + c) ≡ false). rw (no', zero-mul) (ne_eqb (0 + x) (2 ^ suc c - 1) (omega arith)))
    (known (has_bit m (t + c)))

pub known-test : (m t c : ℕ) → eqb (bit_and (m / 2 ^ t) (2 ^ c - 1)) (2 ^ c - 1) ≡ all_known m t c
known-test m t c =
    ap (λ (x : ℕ). eqb x (2 ^ c - 1))
    (and_mask (m / 2 ^ t) c ∙ sym (bits-mod c (m / 2 ^ t))
    ∙ bits-ext c (has_bit (m / 2 ^ t)) (λ j. has_bit m (t + j)) (λ j l. rw (div-div-eq-div-mul m (2 ^ t) (2 ^ j), ← pow-add 2 t j)))
    ∙ bits-all m t c

-- each of the rows
pub known_at : (m t c : ℕ) → all_known m t c ≡ true → (k : ℕ) → t ≤ k → k < t + c → has_bit m k ≡ true
unfolding all_known
known_at m t zero e k a b = absurd (omega arith)
known_at m t (suc c) e k a b =
    ⊎_elim (λ (i : k ≡ t + c). rw i (and_left (has_bit m (t + c)) (all_known m t c) e))
    (λ (ne : k ≡ t + c → ⊥). known_at m t c (and_right (has_bit m (t + c)) (all_known m t c) e) k a (omega arith)) (split-eq k (t + c))

-- ---- nothing is added

module _ (n m t e : ℕ) (few : n ≤ 64) (small : m < 2 ^ 64) (all : all_known m t (e - t) ≡ true) where
  known-rows : (p q : List ℕ) → length p ≡ 80 * n → ((k : ℕ) → k < n → (k < t) ⊎ (e ≤ k) → row q k ≡ row p k) → bit_or m (bits_of n (changed p q)) ≡ m
  known-rows p q hp same = ap (bit_or m) (sym (changed-more n 64 p q few (omega arith))) ∙ or-within 64 m (changed p q) small each
    where
      outside : (k : ℕ) → k < n → changed p q k ≡ true → (k < t) ⊎ (e ≤ k) → has_bit m k ≡ true
      outside k l d o = absurd (false≢true (sym (differs-self (row p k)) ∙ ap (differs (row p k)) (sym (same k l o)) ∙ d))

      inside : (k : ℕ) → k < n → changed p q k ≡ true → has_bit m k ≡ true
      inside k l d =
          ⊎_elim (λ (a : k < t). outside k l d (inl a))
          (λ (a : t ≤ k). ⊎_elim (λ (b : k < e). known_at m t (e - t) all k a (omega arith)) (λ (b : e ≤ k). outside k l d (inr b)) (split-lt k e))
          (split-lt k t)

      -- past the page there is no row
      past : (k : ℕ) → n ≤ k → row p k ≡ []
      past k l = ap (take 80) (drop_of_length-le p {i = 80 * k} (omega arith))

      each : (k : ℕ) → k < 64 → changed p q k ≡ true → has_bit m k ≡ true
      each k l d =
          ⊎_elim (λ (a : k < n). inside k a d)
          (λ (a : n ≤ k). absurd (false≢true (ap (λ (x : List ℕ). differs x (row q k)) (sym (past k a)) ∙ d)))
          (split-lt k n)

  module _ (p : List ℕ) (hp : length p ≡ 80 * n) (ht : t < e) (he : e ≤ n) where
    pub known-scroll : (a : ℕ) → t + a ≤ e → bit_or m (bits_of n (changed p (applied n (ScrollUp t e 0 80 a) p))) ≡ m
    known-scroll a h =
        known-rows p (applied n (ScrollUp t e 0 80 a) p) hp (λ k l o.
        applied-row n (ScrollUp t e 0 80 a) p hp (up-within n t e p hp ht he a h) k l ∙ up-outside t e a (row p) k o)

    pub known-put : (r c w : ℕ) → t ≤ r → r < e → c < 80 → bit_or m (bits_of n (changed p (applied n (Put r c w) p))) ≡ m
    known-put r c w a b h =
        known-rows p (applied n (Put r c w) p) hp (λ k l o.
        applied-row n (Put r c w) p hp (omega arith, h) k l
        ∙ put_other r c w (row p) k (λ i. ⊎_elim (λ (d : k < t). omega arith) (λ (d : e ≤ k). omega arith) o))

    known-none : bit_or m (bits_of n (changed p p)) ≡ m
    known-none = known-rows p p hp (λ k l o. refl)

    -- nor by a byte of text in the last row
    pub known-byte : (newline : Bool) (pen : Pen) (c b : ℕ) → 1 ≤ c → c ≤ 80
        → bit_or m (bits_of n (changed p (line_byte n t e newline pen (record { page = p; column = c }) b).page)) ≡ m
    unfolding line_byte
    known-byte newline pen c b left right =
        ⊎_elim (λ (cr : b ≡ 0x0D). rw cr known-none)
        (λ (no' : b ≡ 0x0D → ⊥). ⊎_elim (λ (lf : b ≡ 0x0A). rw lf (known-scroll 1 (omega arith)))
        (λ (no'' : b ≡ 0x0A → ⊥). rw (ne_eqb b 0x0D no', ne_eqb b 0x0A no'')
        (known-put (e - 1) (c - 1) (pen_word pen b) (omega arith) (omega arith) (omega arith)))
        (split-eq b 0x0A))
        (split-eq b 0x0D)
