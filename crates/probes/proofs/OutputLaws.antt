-- Bytes put one run after the other, and the loops that put them: what is left to put completes what is asked.
use Rattle.std.proofs.Common.{◌≡◌, ℕ, suc, ◌+◌, ◌-◌, ◌/◌, ◌%◌, ◌<◌, ◌≤◌, min, max, List, [], ◌∷◌, ◌++◌, length, get_or, drop, sym, refl, ap, ◌∙◌, ⊎_elim, add-one, arith, length-append, drop-cons}
use native.Mathlib.Nat.{sub-zero}
use lib.Seq.{sets, length-sets, set_out}
use Rattle.ground.proofs.ListLaws.{split-lt}
use Rattle.ground.specs.declared.writing.Writer.{Writer}
use Rattle.ground.specs.Writes.{Wrote, Appended}
use Rattle.ground.proofs.WriteLaws.{wrote-more}
use Rattle.probes.specs.Output.{PutAt, Put, low_first, word_bytes}

-- ---- two runs in a row

-- past the end nothing is put
sets-past : (ys l : List ℕ) (i : ℕ) → length l ≤ i → sets l i ys ≡ l
sets-past [] l i h = refl
sets-past (y ∷ ys) l i h = rw (set_out l i y h) (sets-past ys l (suc i) (omega arith))

wrote : (o : List ℕ) (at : ℕ) (xs : List ℕ) → Wrote o at xs (sets o at xs) (at + length xs)
wrote o at xs = record { is = refl; ends = refl; long = length-sets o at xs }

sets-on : (o : List ℕ) (at : ℕ) (xs ys : List ℕ) → sets (sets o at xs) (at + length xs) ys ≡ sets o at (xs ++ ys)
sets-on o at xs ys = (wrote-more (wrote o at xs) (wrote (sets o at xs) (at + length xs) ys)).is

sets_more : (o : List ℕ) (at : ℕ) (xs ys : List ℕ) → sets (sets o at xs) (min (at + length xs) (max at (length o))) ys ≡ sets o at (xs ++ ys)
sets_more o at xs ys = ⊎_elim past within (split-lt (max at (length o)) (at + length xs))
  where
    past : max at (length o) < at + length xs → sets (sets o at xs) (min (at + length xs) (max at (length o))) ys ≡ sets o at (xs ++ ys)
    past h =
        sets-past ys (sets o at xs) (min (at + length xs) (max at (length o))) (omega (arith, length-sets o at xs))
        ∙ sym (sets-past ys (sets o at xs) (at + length xs) (omega (arith, length-sets o at xs)))
        ∙ sets-on o at xs ys

    within : at + length xs ≤ max at (length o) → sets (sets o at xs) (min (at + length xs) (max at (length o))) ys ≡ sets o at (xs ++ ys)
    within h = ap (λ (k : ℕ). sets (sets o at xs) k ys) (omega arith) ∙ sets-on o at xs ys

put_at-more : {o : List ℕ} {at : ℕ} {xs : List ℕ} {o1 : List ℕ} {n1 : ℕ} {ys : List ℕ} {o2 : List ℕ} {n2 : ℕ}
    → PutAt o at xs o1 n1 → PutAt o1 n1 ys o2 n2 → PutAt o at (xs ++ ys) o2 n2
put_at-more {o} {at} {xs} {o1} {n1} {ys} {o2} {n2} a b = record {
  is = rw (b.is, a.is, a.ends) (sets_more o at xs ys);
  ends = rw (b.ends, a.ends, a.long, length-append) (omega arith);
  long = b.long ∙ a.long;
}

pub put-more : {a : Writer} {xs : List ℕ} {b : Writer} {ys : List ℕ} {c : Writer} → Put a xs b → Put b ys c → Put a (xs ++ ys) c
put-more p q = record { same = q.same ∙ p.same; put = put_at-more p.put q.put }

pub put-none : (w : Writer) → Put w [] w
put-none w = record { same = refl; put = record { is = refl; ends = omega arith; long = refl } }

-- ---- one byte

pub byte_past : (w : Writer) (b : ℕ) → length w.bytes.now ≤ w.len → Put w (b ∷ []) w
byte_past w b h = record { same = refl; put = record { is = sym (set_out w.bytes.now w.len b h); ends = omega arith; long = refl } }

pub byte_within : {a : Writer} {b : ℕ} {c : Writer} → a.len < length a.bytes.now → Appended a (b ∷ []) c → Put a (b ∷ []) c
byte_within h p = record { same = p.same; put = record { is = p.wrote.is; ends = omega (arith, p.wrote.ends); long = p.wrote.long } }

pub ruleset byte_cases = (byte_past, byte_within)

-- ---- loops

-- of all that is to be put from a writer's place on, `left` is still to be put by the writer as it is now
pub record Remaining (before : Writer) (all : List ℕ) (now : Writer) (left : List ℕ) : Type 0 where
  pub after : {later : Writer} → Put now left later → Put before all later

pub all-remains : (w : Writer) (all : List ℕ) → Remaining w all w all
all-remains w all = record { after = λ p. p }

pub none-remains : {a : Writer} {all : List ℕ} {b : Writer} → Remaining a all b [] → Put a all b
none-remains {b = b} r = r.after (put-none b)

pub number-whole : (w : Writer) (n bytes : ℕ) → Remaining w (low_first bytes n) w (low_first (bytes - 0) n)
number-whole w n bytes = rw (sub-zero bytes) (all-remains w (low_first bytes n))

pub number-done : {a : Writer} {all : List ℕ} {b : Writer} (bytes k rest : ℕ) → bytes ≤ k → Remaining a all b (low_first (bytes - k) rest) → Put a all b
number-done bytes k rest h r =
    let e : bytes - k ≡ 0 = omega arith in
    none-remains (rw e at r)

module _ {a : Writer} {all : List ℕ} {b c : Writer} where
  less : (xs ys : List ℕ) → Remaining a all b (xs ++ ys) → Put b xs c → Remaining a all c ys
  less xs ys r p = record { after = λ q. r.after (put-more p q) }

  pub bytes-less : (from : List ℕ) (i : ℕ) → i < length from → Remaining a all b (drop i from)
      → Put b (get_or from i 0 ∷ []) c → Remaining a all c (drop (i + 1) from)
  bytes-less from i h r p =
      rw (add-one i) (less (get_or from i 0 ∷ []) (drop (suc i) from) (rw (drop-cons from i 0 h) at r) p)

  pub words-less : (from : List ℕ) (i : ℕ) → i < length from → Remaining a all b (word_bytes (drop i from))
      → Put b (low_first 2 (get_or from i 0)) c → Remaining a all c (word_bytes (drop (i + 1) from))
  words-less from i h r p =
      rw (add-one i) (less (low_first 2 (get_or from i 0)) (word_bytes (drop (suc i) from)) (rw (drop-cons from i 0 h) at r) p)

  pub number-less : (bytes k rest : ℕ) → k < bytes → Remaining a all b (low_first (bytes - k) rest)
      → Put b (rest % 256 ∷ []) c → Remaining a all c (low_first (bytes - (k + 1)) (rest / 256))
  number-less bytes k rest h r p =
      let e : bytes - k ≡ suc (bytes - (k + 1)) = omega arith in
      less (rest % 256 ∷ []) (low_first (bytes - (k + 1)) (rest / 256)) (rw e at r) p
