-- Four bytes as one word: that all are below 2, or below 4, shows in its bits. And the places of a list, all tested.
use Rattle.std.proofs.Common.{◌≡◌, ℕ, ◌+◌, ◌*◌, ◌/◌, ◌<◌, ◌≤◌, Bool, true, false, ◌&&◌, eqb, ltb, leb, List, length, get_or, drop, sym, refl, ap, ◌∙◌, add-one, arith, lit<, drop_of_length-le, drop-cons, ltb-true, lt-ltb, eq-eqb, eqb-true}
use mathlib.Core.Bool.{and_assoc, and_comm, and-true}
use lib.Bits.{bit_and, and_block, and_high}
use lib.Pow.{shr_mod}
use Rattle.ground.proofs.TestLaws.{and_left, and_right, and_both}
use Rattle.parser.specs.Params.{none_above}

-- two tests that imply each other
same_test : (a b : Bool) → (a ≡ true → b ≡ true) → (b ≡ true → a ≡ true) → a ≡ b
same_test true b f g = sym (f refl)
same_test false true f g = g refl
same_test false false f g = refl

zero-parts : (x y : ℕ) → eqb (x * 256 + y) 0 ≡ (eqb x 0 && eqb y 0)
zero-parts x y =
    same_test (eqb (x * 256 + y) 0) (eqb x 0 && eqb y 0)
    (λ e. let z = eqb-true (x * 256 + y) 0 e in and_both (eqb x 0) (eqb y 0) (eq-eqb x 0 (omega arith)) (eq-eqb y 0 (omega arith)))
    (λ e. let p = eqb-true x 0 (and_left (eqb x 0) (eqb y 0) e) in
    let q = eqb-true y 0 (and_right (eqb x 0) (eqb y 0) e) in
    eq-eqb (x * 256 + y) 0 (omega arith))

reversed : (a b c d : Bool) → (((d && c) && b) && a) ≡ (((a && b) && c) && d)
reversed a b c d = rw (and_comm ((d && c) && b) a, and_comm (d && c) b, and_comm d c) (simp and_assoc)

-- where each byte under a mask tells a test, so do four under four
module _ (mask : ℕ) (small : mask < 256) (test : ℕ → Bool) (byte : (a : ℕ) → a < 256 → eqb (bit_and a mask) 0 ≡ test a) where
  four_bytes : (a b c d : ℕ) → a < 256 → b < 256 → c < 256 → d < 256
      → eqb (bit_and (((d * 256 + c) * 256 + b) * 256 + a) (((mask * 256 + mask) * 256 + mask) * 256 + mask)) 0 ≡ (test a && test b && test c && test d)
  four_bytes a b c d ha hb hc hd =
      rw (and_block 8 ((d * 256 + c) * 256 + b) ((mask * 256 + mask) * 256 + mask) a mask ha small, zero-parts)
      (rw (and_block 8 (d * 256 + c) (mask * 256 + mask) b mask hb small, zero-parts)
      (rw (and_block 8 d mask c mask hc small, zero-parts)
      (rw (byte a ha, byte b hb, byte c hc, byte d hd) (reversed (test a) (test b) (test c) (test d)))))

flag-byte : (a : ℕ) → a < 256 → eqb (bit_and a 254) 0 ≡ ltb a 2
flag-byte a h =
    let high : bit_and a 254 ≡ a / 2 * 2 = and_high a 7 1 ∙ ap (λ (x : ℕ). x * 2) (shr_mod 7 1 h) in
    same_test (eqb (bit_and a 254) 0) (ltb a 2)
    (λ e. let z : a / 2 * 2 ≡ 0 = sym high ∙ eqb-true (bit_and a 254) 0 e in lt-ltb a 2 (omega arith))
    (λ e. let l = ltb-true a 2 e in let z : a / 2 * 2 ≡ 0 = omega arith in eq-eqb (bit_and a 254) 0 (high ∙ z))

set-byte : (a : ℕ) → a < 256 → eqb (bit_and a 252) 0 ≡ ltb a 4
set-byte a h =
    let high : bit_and a 252 ≡ a / 4 * 4 = and_high a 6 2 ∙ ap (λ (x : ℕ). x * 4) (shr_mod 6 2 h) in
    same_test (eqb (bit_and a 252) 0) (ltb a 4)
    (λ e. let z : a / 4 * 4 ≡ 0 = sym high ∙ eqb-true (bit_and a 252) 0 e in lt-ltb a 4 (omega arith))
    (λ e. let l = ltb-true a 4 e in let z : a / 4 * 4 ≡ 0 = omega arith in eq-eqb (bit_and a 252) 0 (high ∙ z))

pub four-flags : (a b c d : ℕ) → a < 256 → b < 256 → c < 256 → d < 256
    → eqb (bit_and (((d * 256 + c) * 256 + b) * 256 + a) 0xFEFEFEFE) 0 ≡ (ltb a 2 && ltb b 2 && ltb c 2 && ltb d 2)
four-flags = four_bytes 254 (lit< tt) (λ (x : ℕ). ltb x 2) flag-byte

pub four-sets : (a b c d : ℕ) → a < 256 → b < 256 → c < 256 → d < 256
    → eqb (bit_and (((d * 256 + c) * 256 + b) * 256 + a) 0xFCFCFCFC) 0 ≡ (ltb a 4 && ltb b 4 && ltb c 4 && ltb d 4)
four-sets = four_bytes 252 (lit< tt) (λ (x : ℕ). ltb x 4) set-byte

-- ---- the places of a list, one after the other

module _ (m : ℕ) (vs : List ℕ) where
  pub one_more : (low : Bool) (i : ℕ) → i < length vs → ((low && leb (get_or vs i 0) m) && none_above m (drop (i + 1) vs)) ≡ (low && none_above m (drop i vs))
  one_more low i h = rw (and_assoc, drop-cons vs i 0, add-one i)

  pub no_more : (low : Bool) (i : ℕ) → length vs ≤ i → (low && none_above m (drop i vs)) ≡ low
  no_more low i h = rw (drop_of_length-le vs {i = i} h) (and-true low)
