-- 20 to 7E of a sequence: where parameters are read they go by one rule, and 40 to 7E end it.
use mathlib.Core.Path.{◌≡◌, refl, sym, ap, ◌∙◌}
use mathlib.Core.Bool.{true, false, cond, ◌&&◌, and-false}
use Prim.Native.Nat.{ℕ, ◌≤◌, ◌<◌}
use native.Mathlib.Omega.{arith}
use lib.Dec.{leb}
use borrow.Author.Tests.{eqb-true, ne_eqb, leb-true, le-ltb, lt-leb}
use Rattle.parser.specs.declared.phases.Phase.{Phase}
use Rattle.parser.specs.declared.phases.Phase.TheVariants.{Ground, CsiEntry, CsiParam, CsiIgnore}
use Rattle.parser.specs.declared.phases.Op.TheVariants.{Ignore, Mark, CsiDispatch}
use Rattle.parser.specs.declared.phases.Transition.{Transition}
use Rattle.parser.specs.declared.parser.Parser.{Parser}
use Rattle.parser.specs.declared.parser.Decoded.{Decoded}
use Rattle.parser.specs.Parser.{to, parameter_rule, sequence_rule, lowered, transition, in_phase, kept, sequence_action, action_of, decode}
use Rattle.ground.specs.Tests.{between}
use Rattle.parser.specs.Phases.{phase_number, is_phase, is_ground, is_string, takes_parameters, intermediates}
use Rattle.ground.proofs.TestLaws.{and_left, and_right, or_cases, between-low, between-high, either}

-- what is decoded goes by the transition
pub decode-by : (s : Parser) (b : ℕ) (t : Transition) → transition s.phase b ≡ t
    → decode s b ≡ record { parser = kept s t.next t.op b; action = action_of s t.op b }
unfolding decode
decode-by s b t e = rw e

-- 20 to 7E of a sequence
in-sequence : (p : Phase) (b : ℕ) → is_ground p ≡ false → is_string p ≡ false → 0x20 ≤ b → b < 0x7F → transition p b ≡ sequence_rule p b
unfolding transition
in-sequence p b g t l u =
    rw (ne_eqb b 0x18 (omega arith), ne_eqb b 0x1A (omega arith), ne_eqb b 0x1B (omega arith), lt-leb 0x80 b (omega arith))
    (rw (g, t, le-ltb b 0x20 l, ne_eqb b 0x7F (omega arith)))

-- in a string no byte is read by the rule of sequences
string-rule : (p : Phase) (x : ℕ) → cond (is_string p) (to p Ignore) (sequence_rule p x) ≡ sequence_rule p x
string-rule p x = either (λ (t : Transition). t ≡ sequence_rule p x) (is_string p) (λ e. rw (eqb-true (phase_number p) 10 e)) (λ _. refl)

-- 40 to 7E, and the bytes that are read as they, are no controls
final-apart : (b : ℕ) → 0x40 ≤ lowered b → (0x40 ≤ b) × (between 0x80 b 0x9F ≡ false)
final-apart b =
    either (λ (x : ℕ). 0x40 ≤ x → (0x40 ≤ b) × (between 0x80 b 0x9F ≡ false)) (leb 0x80 b)
    (λ e h. let l = leb-true 0x80 b e in (omega arith, rw (lt-leb b 0x9F (omega arith)) (and-false (leb 0x80 b))))
    (λ e h. (h, rw e))

-- they go by the rule of sequences
final-rule : (p : Phase) (b : ℕ) → is_ground p ≡ false → 0x40 ≤ lowered b → lowered b < 0x7F → transition p b ≡ sequence_rule p (lowered b)
unfolding transition
final-rule p b g l u =
    let apart = final-apart b l in
    let low = apart.0 in
    rw (ne_eqb b 0x18 (omega arith), ne_eqb b 0x1A (omega arith), ne_eqb b 0x1B (omega arith), apart.1, g, le-ltb b 0x20 (omega arith), ne_eqb (lowered b) 0x7F (omega arith))
    (string-rule p (lowered b))

pub final-acts : (s : Parser) (b : ℕ) → is_ground s.phase ≡ false → 0x40 ≤ lowered b → lowered b < 0x7F → (t : Transition) → t ≡ sequence_rule s.phase (lowered b)
    → action_of s t.op b ≡ (decode s b).action
final-acts s b g l u t e =
    ap (λ (x : Transition). action_of s x.op b) (e ∙ sym (final-rule s.phase b g l u))
    ∙ sym (ap (λ (d : Decoded). d.action) (decode-by s b (transition s.phase b) refl))

-- two phases take parameters
parameter-phases : {C : Type 0} (p : Phase) → (phase_number p ≡ 5 → C) → (phase_number p ≡ 6 → C) → takes_parameters p ≡ true → C
parameter-phases p f g e =
    or_cases (is_phase CsiEntry p) (is_phase CsiParam p) e (λ h. f (eqb-true (phase_number p) 5 h)) (λ h. g (eqb-true (phase_number p) 6 h))

-- where parameters are read, 20 to 7E go by one rule
pub in-parameters : (b : ℕ) (t : Transition) → 0x20 ≤ b → b < 0x7F → ((m : Transition) → parameter_rule b m ≡ t)
    → (p : Phase) → takes_parameters p ≡ true → transition p b ≡ t
in-parameters b t l u f p =
    parameter-phases p
    (λ n. in-sequence p b (rw n) (rw n) l u ∙ rw n (f (to CsiParam Mark)))
    (λ n. in-sequence p b (rw n) (rw n) l u ∙ rw n (f (to CsiIgnore Ignore)))

pub lowered-low : (b : ℕ) → b < 0x80 → lowered b ≡ b
lowered-low b h = rw (lt-leb 0x80 b h)

-- the end of a control sequence
pub final-decode : (s : Parser) (b : ℕ) → (takes_parameters s.phase && between 0x40 b 0x7E) ≡ true
    → decode s b ≡ record { parser = in_phase Ground s; action = sequence_action s.mark 0 0 b }
final-decode s b both =
    let e = and_left (takes_parameters s.phase) (between 0x40 b 0x7E) both in
    let h = and_right (takes_parameters s.phase) (between 0x40 b 0x7E) both in
    let l = between-low 0x40 b 0x7E h in
    let u = between-high 0x40 b 0x7E h in
    let none : intermediates s.phase ≡ 0 = parameter-phases s.phase (λ n. rw n) (λ n. rw n) e in
    decode-by s b _
    (in-parameters b (to Ground CsiDispatch) (omega arith) (omega arith)
    (λ m. rw (le-ltb b 0x30 (omega arith), le-ltb b 0x3C (omega arith), le-ltb b 0x40 l)) s.phase e)
    ∙ rw (none, lowered-low b (omega arith))
