-- Bytes that only move the parser: none, one, and some after others; ESC, CSI and its parameters are such bytes.
use mathlib.Core.Path.{◌≡◌, refl, ap, ◌∙◌}
use mathlib.Core.Bool.{Bool, true, false, cond, ◌&&◌, ◌||◌}
use mathlib.Core.List.{List, [], ◌∷◌, ◌++◌}
use Prim.Native.Nat.{ℕ, ◌+◌, ◌≤◌, ◌<◌}
use native.Mathlib.Nat.{le_refl}
use native.Mathlib.Omega.{arith}
use lib.Dec.{eqb, ltb}
use lib.ListN.{length, get_or, take}
use borrow.Author.Tests.{not-true, eqb-true, ne_eqb, ltb-true, le-ltb, lt-ltb, lt-leb}
use Rattle.parser.specs.declared.phases.Phase.{Phase}
use Rattle.parser.specs.declared.phases.Phase.TheVariants.{Escape, CsiEntry, CsiParam, StringText}
use Rattle.parser.specs.declared.phases.Op.TheVariants.{Ignore, Mark, Param}
use Rattle.parser.specs.declared.parser.Parser.{Parser}
use Rattle.parser.specs.declared.parser.Action.TheVariants.{Nothing}
use Rattle.parser.specs.declared.parser.Decoded.{Decoded}
use Rattle.idle.specs.declared.Idle.{Idle}
use Rattle.parser.specs.Params.{joined, no_params, param_list, member}
use Rattle.parser.specs.Families.{joined_mark}
use Rattle.parser.specs.Parser.{opens_string, c1_rule, to, transition, cleared, in_phase, with_mark, gathered, decode}
use Rattle.parser.specs.Places.{places, are_parameters}
use Rattle.ground.specs.Folds.{folded}
use Rattle.ground.specs.Tests.{between}
use Rattle.idle.specs.Idle.{parsed, AllIdle, is_parameter, is_mark, gathers, opens, is_text, Skipped}
use Rattle.ground.specs.Spans.{span}
use Rattle.parser.specs.Phases.{phase_number, is_phase, is_string, takes_parameters}
use Rattle.ground.proofs.TestLaws.{and_left, and_right, either, or_cases, or_left, or_right, between-low, between-high, in_between}
use Rattle.parser.proofs.SequenceLaws.{decode-by, in-parameters, lowered-low}
use Rattle.parser.proofs.PlaceLaws.{places-read}
use Rattle.ground.proofs.SpanLaws.{span_none, span_more, span-append}

-- a byte that only moves the parser
abbrev pub moved : Parser → Decoded
moved s = record { parser = s; action = Nothing }

-- ---- bytes after others

pub parsed-append : (s : Parser) (xs ys : List ℕ) → parsed s (xs ++ ys) ≡ parsed (parsed s xs) ys
unfolding parsed
parsed-append s [] ys = refl
parsed-append s (x ∷ xs) ys = parsed-append (decode s x).parser xs ys

pub idle-append : (s : Parser) (xs ys : List ℕ) → AllIdle s xs → AllIdle (parsed s xs) ys → AllIdle s (xs ++ ys)
unfolding parsed AllIdle
idle-append s [] ys h k = k
idle-append s (x ∷ xs) ys h k = (h.0, idle-append (decode s x).parser xs ys h.1 k)

-- none
pub skipped-none : (s : Parser) (input : List ℕ) (from : ℕ) → from ≤ length input → Skipped s input from (record { parser = s; next = from })
unfolding parsed AllIdle
skipped-none s input from h = let e = span_none input from in record { start = le_refl from; end = h; parser-is = rw e; idle = rw e tt }

-- one
pub skipped-one : (s q : Parser) (input : List ℕ) (i : ℕ) → i < length input → decode s (get_or input i 0) ≡ moved q
    → Skipped s input i (record { parser = q; next = i + 1 })
unfolding parsed AllIdle
skipped-one s q input i h d =
    let e : span input i (i + 1) ≡ get_or input i 0 ∷ [] = rw (span_more input i i (le_refl i) h, span_none input i) in
    record { start = omega arith; end = omega arith; parser-is = rw (e, ← ap (λ (r : Decoded). r.parser) d); idle = rw e (rw d, tt) }

-- some after others
pub skipped-on : {s : Parser} {input : List ℕ} {from : ℕ} {r t : Idle} → Skipped s input from r → Skipped r.parser input r.next t
    → Skipped s input from t
skipped-on {s} {input} {from} {r} {t} a b =
    let e = span-append input from r.next t.next a.start b.start in
    record {
      start = omega (arith, a.start, b.start);
      end = b.end;
      parser-is = rw (e, parsed-append, ← a.parser-is) b.parser-is;
      idle = rw e (idle-append s _ _ a.idle (rw a.parser-is at b.idle));
    }

-- one more
pub skipped-more :
    {s : Parser} {input : List ℕ} {from : ℕ} {r : Idle} (q : Parser)
    → Skipped s input from r
    → r.next < length input
    → decode r.parser (get_or input r.next 0) ≡ moved q
    → Skipped s input from (record { parser = q; next = r.next + 1 })
skipped-more {s} {input} {from} {r} q a h d = skipped-on a (skipped-one r.parser q input r.next h d)

-- a test of a byte tells that it is there
pub there : (input : List ℕ) (i : ℕ) (t : Bool) → (ltb i (length input) && t) ≡ true → i < length input
there input i t e = ltb-true i (length input) (and_left (ltb i (length input)) t e)

-- a byte that is known by a test
pub skipped-known :
    (s q : Parser) (input : List ℕ) (i b : ℕ)
    → (ltb i (length input) && eqb (get_or input i 0) b) ≡ true
    → decode s b ≡ moved q
    → Skipped s input i (record { parser = q; next = i + 1 })
skipped-known s q input i b e d =
    let here = eqb-true (get_or input i 0) b (and_right (ltb i (length input)) _ e) in
    skipped-one s q input i (there input i _ e) (rw here d)

-- ---- which bytes

pub escape-idle : (s : Parser) → decode s 0x1B ≡ moved (cleared Escape)
unfolding decode transition
escape-idle s = refl

pub csi-idle : (s : Parser) → s.phase ≡ Escape → decode s 0x5B ≡ moved (cleared CsiEntry)
unfolding decode transition
csi-idle s e = rw e

pub csi-byte-idle : (s : Parser) → decode s 0x9B ≡ moved (cleared CsiEntry)
unfolding decode transition
csi-byte-idle s = refl

-- what opens a string is in 90 to 9F, and is not CSI
record Opener (b : ℕ) : Type 0 where
  low : 0x90 ≤ b
  high : b ≤ 0x9F
  no-csi : eqb b 0x9B ≡ false

opener : (b : ℕ) → opens_string b ≡ true → Opener b
opener b h =
    or_cases (eqb b 0x90 || eqb b 0x98) (between 0x9D b 0x9F) h
    (λ e. or_cases (eqb b 0x90) (eqb b 0x98) e
    (λ k. let n = eqb-true b 0x90 k in record { low = omega arith; high = omega arith; no-csi = ne_eqb b 0x9B (omega arith) })
    (λ k. let n = eqb-true b 0x98 k in record { low = omega arith; high = omega arith; no-csi = ne_eqb b 0x9B (omega arith) }))
    (λ e. let l = between-low 0x9D b 0x9F e in
    let u = between-high 0x9D b 0x9F e in
    record { low = omega arith; high = u; no-csi = ne_eqb b 0x9B (omega arith) })

opener-rule : (b : ℕ) → opens_string b ≡ true → c1_rule b ≡ to StringText Ignore
opener-rule b h = rw ((opener b h).no-csi, h)

-- what opens a string, as one byte
string-rule : (p : Phase) (b : ℕ) → opens_string b ≡ true → transition p b ≡ to StringText Ignore
unfolding transition
string-rule p b h =
    let o = opener b h in
    let l = o.low in
    rw (ne_eqb b 0x18 (omega arith), ne_eqb b 0x1A (omega arith), ne_eqb b 0x1B (omega arith), in_between 0x80 b 0x9F (omega arith) o.high)
    (opener-rule b h)

-- and after ESC
escape-string-rule : (p : Phase) (b : ℕ) → phase_number p ≡ 1 → opens_string (b + 0x40) ≡ true → transition p b ≡ to StringText Ignore
unfolding transition
escape-string-rule p b n h =
    let o = opener (b + 0x40) h in
    let l = o.low in
    let u = o.high in
    rw (ne_eqb b 0x18 (omega arith), ne_eqb b 0x1A (omega arith), ne_eqb b 0x1B (omega arith), lt-leb 0x80 b (omega arith))
    (rw (n, le-ltb b 0x20 (omega arith), ne_eqb b 0x7F (omega arith), le-ltb b 0x30 (omega arith), in_between 0x40 b 0x5F (omega arith) (omega arith))
    (opener-rule (b + 0x40) h))

opens-idle : (s : Parser) (b : ℕ) → opens s.phase b ≡ true → decode s b ≡ moved (in_phase StringText s)
opens-idle s b =
    either (λ (t : Bool). t ≡ true → decode s b ≡ moved (in_phase StringText s)) (ltb b 0x80)
    (λ _ h. let here = is_phase Escape s.phase in
    let escape = eqb-true (phase_number s.phase) 1 (and_left here (opens_string (b + 0x40)) h) in
    decode-by s b (to StringText Ignore) (escape-string-rule s.phase b escape (and_right here (opens_string (b + 0x40)) h)))
    (λ _ h. decode-by s b (to StringText Ignore) (string-rule s.phase b h))

-- the private mark, as first byte
mark-rule : (p : Phase) (b : ℕ) → phase_number p ≡ 5 → 0x3C ≤ b → b ≤ 0x3F → transition p b ≡ to CsiParam Mark
unfolding transition
mark-rule p b n l u =
    rw (ne_eqb b 0x18 (omega arith), ne_eqb b 0x1A (omega arith), ne_eqb b 0x1B (omega arith), lt-leb 0x80 b (omega arith))
    (rw (n, le-ltb b 0x20 (omega arith), ne_eqb b 0x7F (omega arith), le-ltb b 0x30 (omega arith), le-ltb b 0x3C l, lt-ltb b 0x40 (omega arith)))

mark-idle : (s : Parser) (b : ℕ) → is_phase CsiEntry s.phase ≡ true → is_mark b ≡ true → decode s b ≡ moved (with_mark CsiParam s b)
mark-idle s b e h =
    let l = between-low 0x3C b 0x3F h in
    let u = between-high 0x3C b 0x3F h in
    decode-by s b (to CsiParam Mark) (mark-rule s.phase b (eqb-true (phase_number s.phase) 5 e) l u) ∙ rw (lowered-low b (omega arith))

parameter-idle : (s : Parser) (b : ℕ) → takes_parameters s.phase ≡ true → is_parameter b ≡ true → decode s b ≡ moved (gathered CsiParam s b)
parameter-idle s b e h =
    let low = between-low 0x30 b 0x3B h in
    let high = between-high 0x30 b 0x3B h in
    decode-by s b _
    (in-parameters b (to CsiParam Param) (omega arith) (omega arith) (λ m. rw (le-ltb b 0x30 low, lt-ltb b 0x3C (omega arith))) s.phase e)
    ∙ rw (lowered-low b (omega arith))

all-gathered : (s : Parser) (xs : List ℕ) → takes_parameters s.phase ≡ true → are_parameters xs ≡ true → parsed s xs ≡ folded (gathered CsiParam) s xs
unfolding parsed
all-gathered s [] e h = refl
all-gathered s (x ∷ xs) e h =
    let more = all-gathered (gathered CsiParam s x) xs refl (and_right (is_parameter x) (are_parameters xs) h) in
    rw (parameter-idle s x e (and_left (is_parameter x) (are_parameters xs) h)) more

-- parameters, read where none is yet: the first 16 of their places are kept, and in the mark whether one of them is joined
pub parameters-read : (s : Parser) (xs : List ℕ) → takes_parameters s.phase ≡ true → s.params ≡ no_params → are_parameters xs ≡ true
    → let r = parsed s xs in let l = take 16 (places xs) in
    (param_list r.params ≡ l) × (r.mark ≡ cond (member joined l) (joined_mark s.mark) s.mark)
parameters-read s xs e n h = rw (all-gathered s xs e h) (places-read s xs n h)

-- one more parameter's byte
pub skipped-parameter :
    {s : Parser} {input : List ℕ} {from : ℕ} {r : Idle}
    → Skipped s input from r
    → takes_parameters r.parser.phase ≡ true
    → (ltb r.next (length input) && gathers r.parser.phase (get_or input r.next 0)) ≡ true
    → get_or input r.next 0 < 0x3C
    → Skipped s input from (record { parser = gathered CsiParam r.parser (get_or input r.next 0); next = r.next + 1 })
skipped-parameter {s} {input} {from} {r} a e k h =
    let b = get_or input r.next 0 in
    let test = and_right (ltb r.next (length input)) _ k in
    let one : is_parameter b ≡ true = or_cases (is_parameter b) (is_mark b && is_phase CsiEntry r.parser.phase) test (λ y. y)
    (λ y. let low = between-low 0x3C b 0x3F (and_left (is_mark b) _ y) in absurd (omega arith)) in
    skipped-more _ a (there input r.next _ k) (parameter-idle r.parser b e one)

-- the private mark
pub skipped-mark :
    {s : Parser} {input : List ℕ} {from : ℕ} {r : Idle}
    → Skipped s input from r
    → (ltb r.next (length input) && gathers r.parser.phase (get_or input r.next 0)) ≡ true
    → 0x3B < get_or input r.next 0
    → Skipped s input from (record { parser = with_mark CsiParam r.parser (get_or input r.next 0); next = r.next + 1 })
skipped-mark {s} {input} {from} {r} a k h =
    let b = get_or input r.next 0 in
    let test = and_right (ltb r.next (length input)) _ k in
    let both : (is_mark b && is_phase CsiEntry r.parser.phase) ≡ true = or_cases (is_parameter b) (is_mark b && is_phase CsiEntry r.parser.phase) test
    (λ y. let high = between-high 0x30 b 0x3B y in absurd (omega arith)) (λ y. y) in
    skipped-more _ a (there input r.next _ k) (mark-idle r.parser b (and_right (is_mark b) _ both) (and_left (is_mark b) _ both))

-- ---- the text of a string

text-rule : (p : Phase) (b : ℕ) → is_string p ≡ true → is_text b ≡ true → transition p b ≡ to p Ignore
unfolding transition
text-rule p b e h =
    let first = eqb b 0x18 || eqb b 0x1A in
    let rest = eqb b 0x1B || between 0x80 b 0x9F in
    let n = not-true (first || rest) h in
    let l = or_left first rest n in
    let r = or_right first rest n in
    rw (or_left (eqb b 0x18) _ l, or_right (eqb b 0x18) _ l, or_left (eqb b 0x1B) _ r, or_right (eqb b 0x1B) _ r, eqb-true (phase_number p) 10 e)

-- what opens it
pub skipped-opener :
    (s : Parser) (input : List ℕ) (i : ℕ)
    → (ltb i (length input) && opens s.phase (get_or input i 0)) ≡ true
    → Skipped s input i (record { parser = in_phase StringText s; next = i + 1 })
skipped-opener s input i e =
    skipped-one s (in_phase StringText s) input i (there input i _ e) (opens-idle s (get_or input i 0) (and_right (ltb i (length input)) _ e))

-- one more byte of it
pub skipped-text :
    {s : Parser} {input : List ℕ} {from i : ℕ}
    → Skipped s input from (record { parser = s; next = i })
    → i < length input
    → is_string s.phase ≡ true
    → is_text (get_or input i 0) ≡ true
    → Skipped s input from (record { parser = s; next = i + 1 })
skipped-text {s} {input} {from} {i} a l e h = skipped-more s a l (decode-by s _ _ (text-rule s.phase (get_or input i 0) e h))
