-- Writing bytes one run after the other.
use mathlib.Core.Path.{◌≡◌, refl, sym, ap, ◌∙◌}
use mathlib.Core.List.{List, [], ◌∷◌, ◌++◌, append_assoc}
use Prim.Native.Nat.{ℕ, suc, ◌+◌, ◌≤◌}
use native.Mathlib.Nat.{add-zero, add-suc, suc-add}
use native.Mathlib.Omega.{arith}
use lib.ListN.{length, set, take, drop, length-append}
use lib.Seq.{sets, length-sets, drop-drop}
use Rattle.std.proofs.lemmas.List.Edits.{sets-eq}
use Rattle.ground.specs.declared.writing.Writer.{Writer}
use Rattle.ground.specs.Writes.{Wrote, Appended}

sets-append : (xs ys l : List ℕ) (i : ℕ) → sets l i (xs ++ ys) ≡ sets (sets l i xs) (i + length xs) ys
sets-append [] ys l i = rw (add-zero i)
sets-append (x ∷ xs) ys l i = rw (add-suc i (length xs), ← suc-add i (length xs)) (sets-append xs ys (set l i x) (suc i))

pub wrote_none : (o : List ℕ) (at : ℕ) → Wrote o at [] o at
wrote_none o at = record { is = refl; ends = sym (add-zero at); long = refl }

pub wrote-more : {o : List ℕ} {at : ℕ} {xs : List ℕ} {o1 : List ℕ} {n1 : ℕ} {ys : List ℕ} {o2 : List ℕ} {n2 : ℕ}
    → Wrote o at xs o1 n1 → Wrote o1 n1 ys o2 n2 → Wrote o at (xs ++ ys) o2 n2
wrote-more {o} {at} {xs} {o1} {n1} {ys} a b = record { is = cc (sets-append xs ys o at); ends = simp length-append (omega arith); long = cc }

-- a part that is copied over is as many bytes set
pub wrote-over : (o : List ℕ) (at : ℕ) (bytes : List ℕ) → at + length bytes ≤ length o
    → Wrote o at bytes (take at o ++ (bytes ++ drop (length bytes) (drop at o))) (at + length bytes)
wrote-over o at bytes h =
    let over : take at o ++ (bytes ++ drop (length bytes) (drop at o)) ≡ sets o at bytes = rw (sets-eq bytes o at h, drop-drop, append_assoc) in
    record { is = over; ends = refl; long = ap length over ∙ length-sets o at bytes }

-- ---- by a writer

pub append_none : (w : Writer) → Appended w [] w
append_none w = record { same = refl; wrote = wrote_none w.bytes.now w.len }

pub append-more : {a : Writer} {xs : List ℕ} {b : Writer} {ys : List ℕ} {c : Writer} → Appended a xs b → Appended b ys c → Appended a (xs ++ ys) c
append-more p q = record { same = cc; wrote = wrote-more p.wrote q.wrote }
