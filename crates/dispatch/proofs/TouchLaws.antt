-- Bytes that move the cursor and make one edit at most: what is decoded of them, that they draw no reply and tell nothing,
-- and that cursor and edit are all that they change.
use Rattle.std.proofs.Common.{◌≡◌, ℕ, ◌<◌, ◌≤◌, Bool, true, false, cond, not, ◌||◌, eqb, ltb, sym, refl, ap, ◌∙◌, arith, ltb-true, le-ltb, lt-ltb, ne_eqb, eqb-true}
use mathlib.Core.Bool.{false≢true}
use borrow.Author.Tests.{eqb-false, lt-leb, not-true}
use Rattle.ground.specs.Tests.{between}
use Rattle.ground.specs.Folds.{folded}
use Rattle.ground.proofs.TestLaws.{and_left, and_right, or_cases, between-low, between-high, in_between, either, at-number}
use Rattle.parser.specs.declared.phases.Phase.{Phase}
use Rattle.parser.specs.declared.phases.Phase.TheVariants.{Ground}
use Rattle.parser.specs.declared.phases.Op.TheVariants.{Execute, C1}
use Rattle.parser.specs.declared.parser.Parser.{Parser}
use Rattle.parser.specs.declared.parser.Decoded.{Decoded}
use Rattle.parser.specs.declared.parser.Action.{Action}
use Rattle.parser.specs.Params.{param, param_list, numbers, member}
use Rattle.parser.specs.Phases.{takes_parameters}
use Rattle.parser.specs.Parser.{to, transition, in_phase, control_sequence, sequence_action, decode}
use Rattle.parser.proofs.SequenceLaws as sequence
use Rattle.core_state.specs.declared.Core.{Core}
use Rattle.core_state.specs.Effects.{with_cursor, with_rendition, with_parser, one_edit, unedited}
use Rattle.vt.specs.Controls.{next_lined, indexed, line_fed, controlled}
use Rattle.csi.specs.Sequences.{rendered, sequenced}
use Rattle.dispatch.specs.Heard.{is_ignored}
use Rattle.dispatch.specs.WrapDue.{clears_wrap, with_wrap_policy}
use Rattle.dispatch.specs.Decide.{executed}
use Rattle.dispatch.specs.Events.{is_notable, is_eventful}
use Rattle.dispatch.specs.Touches.{narrowed, is_touch, touch_ignored, touch_decided, other_controls, is_direct, control_action}
use Rattle.dispatch.proofs.HeardLaws.{other, ignored-unedited}

-- ---- control sequences

-- a claim of each of the finals
pub by-final : (P : ℕ → Type 0) → P 0x40 → P 0x41 → P 0x42 → P 0x43 → P 0x44 → P 0x48 → P 0x4A → P 0x4B → P 0x4C → P 0x4D → P 0x50 → P 0x58 → P 0x66
    → (last : ℕ) → is_touch last ≡ true → P last
by-final P ich cuu cud cuf cub cup ed el il dl dch ech hvp last h =
    or_cases (eqb last 0x40) _ h (at 0x40 ich)
    (λ h1. or_cases (eqb last 0x41) _ h1 (at 0x41 cuu)
    (λ h2. or_cases (eqb last 0x42) _ h2 (at 0x42 cud)
    (λ h3. or_cases (eqb last 0x43) _ h3 (at 0x43 cuf)
    (λ h4. or_cases (eqb last 0x44) _ h4 (at 0x44 cub)
    (λ h5. or_cases (eqb last 0x48) _ h5 (at 0x48 cup)
    (λ h6. or_cases (eqb last 0x4A) _ h6 (at 0x4A ed)
    (λ h7. or_cases (eqb last 0x4B) _ h7 (at 0x4B el)
    (λ h8. or_cases (eqb last 0x4C) _ h8 (at 0x4C il)
    (λ h9. or_cases (eqb last 0x4D) _ h9 (at 0x4D dl)
    (λ h10. or_cases (eqb last 0x50) _ h10 (at 0x50 dch)
    (λ h11. or_cases (eqb last 0x58) _ h11 (at 0x58 ech)
    (λ h12. or_cases (eqb last 0x66) _ h12 (at 0x66 hvp) (λ none. absurd (false≢true none))))))))))))))
  where
    at : (k : ℕ) → P k → eqb last k ≡ true → P last
    at k p e = rw (eqb-true last k e) p

pub touch-range : (b : ℕ) → is_touch b ≡ true → (0x40 ≤ b) × (b ≤ 0x7E)
touch-range =
    by-final (λ (b : ℕ). (0x40 ≤ b) × (b ≤ 0x7E))
    (omega arith, omega arith) (omega arith, omega arith) (omega arith, omega arith) (omega arith, omega arith) (omega arith, omega arith)
    (omega arith, omega arith) (omega arith, omega arith) (omega arith, omega arith) (omega arith, omega arith) (omega arith, omega arith)
    (omega arith, omega arith) (omega arith, omega arith) (omega arith, omega arith)

pub touch-quiet : (b : ℕ) → is_touch b ≡ true → is_notable b ≡ false
touch-quiet = by-final (λ (b : ℕ). is_notable b ≡ false) refl refl refl refl refl refl refl refl refl refl refl refl refl

-- the end of a sequence with no mark
pub final-decode : (s : Parser) (b : ℕ) → takes_parameters s.phase ≡ true → s.mark ≡ 0 → 0x40 ≤ b → b ≤ 0x7E
    → decode s b ≡ record { parser = in_phase Ground s; action = control_sequence 0 0 0 b }
final-decode s b t m l u =
    sequence.final-decode s b (rw t (in_between 0x40 b 0x7E l u))
    ∙ ap (λ (x : ℕ). record { parser = in_phase Ground s; action = sequence_action x 0 0 b }) m

-- what is ignored leaves all
pub ignored-touch : (c : Core) (s : Parser) (last : ℕ) → is_touch last ≡ true → touch_ignored c (param s.params 0) last ≡ true
    → unedited (with_parser c s) ≡ executed (with_parser c s) (control_sequence 0 0 0 last)
ignored-touch c s last h e =
    ignored-unedited (with_parser c s) (control_sequence 0 0 0 last)
    (by-final (λ (x : ℕ). touch_ignored c (param s.params 0) x ≡ true → is_ignored (with_parser c s) (control_sequence 0 0 0 x) ≡ true)
    (λ i. i) (λ i. i) (λ i. i) (λ i. i) (λ i. i) (λ i. i) (λ i. i) (λ i. i) (λ i. i) (λ i. i) (λ i. i) (λ i. i) (λ i. i) last h e)

-- and the others move the cursor and make an edit
pub heard-touch : (c : Core) (s : Parser) (last : ℕ) → is_touch last ≡ true → touch_ignored c (param s.params 0) last ≡ false
    → (let t = narrowed (touch_decided c (param s.params 0) (param s.params 1) last) in
    one_edit (with_cursor (with_parser c s) t.cursor) t.edit ≡ executed (with_parser c s) (control_sequence 0 0 0 last))
unfolding executed clears_wrap sequenced
heard-touch c s =
    by-final
    (λ (x : ℕ). touch_ignored c (param s.params 0) x ≡ false
    → (let t = narrowed (touch_decided c (param s.params 0) (param s.params 1) x) in
    one_edit (with_cursor (with_parser c s) t.cursor) t.edit ≡ executed (with_parser c s) (control_sequence 0 0 0 x)))
    (λ e. rw e) (λ e. refl) (λ e. refl) (λ e. refl) (λ e. refl) (λ e. refl) (λ e. rw e)
    (λ e. rw e) (λ e. rw e) (λ e. rw e) (λ e. rw e) (λ e. refl) (λ e. refl)

-- SGR: the rendition alone
pub rendition-executes : (c : Core)
    → executed c (control_sequence 0 0 0 0x6D) ≡ unedited (with_rendition c (folded rendered c.rendition (numbers (param_list c.parser.params))))
unfolding executed clears_wrap sequenced
rendition-executes c = refl

-- ---- controls

-- below 20 or 80 to 9F, and none of the others
record Direct (b : ℕ) : Type 0 where
  ranges : (ltb b 0x20 || between 0x80 b 0x9F) ≡ true
  apart : (k : ℕ) → member k other_controls ≡ true → eqb b k ≡ false

direct_is : (b : ℕ) → is_direct b ≡ true → Direct b
direct_is b h = record {
  ranges = and_left (ltb b 0x20 || between 0x80 b 0x9F) (not (member b other_controls)) h;
  apart = other other_controls b (not-true (member b other_controls) (and_right (ltb b 0x20 || between 0x80 b 0x9F) (not (member b other_controls)) h));
}

-- 80 to 9F act alike in every phase
high-rule : (p : Phase) (b : ℕ) → is_direct b ≡ true → 0x80 ≤ b → b ≤ 0x9F → transition p b ≡ to Ground C1
unfolding transition
high-rule p b h l u =
    let a = (direct_is b h).apart in
    let x = eqb-false b 0x9D (a 0x9D refl) in
    let y = eqb-false b 0x9E (a 0x9E refl) in
    let z = eqb-false b 0x9F (a 0x9F refl) in
    rw (ne_eqb b 0x18 (omega arith), ne_eqb b 0x1A (omega arith), ne_eqb b 0x1B (omega arith), in_between 0x80 b 0x9F l u)
    (rw (a 0x9B refl, a 0x90 refl, a 0x98 refl, lt-leb 0x9D b (omega arith)))

low-rule : (b : ℕ) → is_direct b ≡ true → b < 0x20 → transition Ground b ≡ to Ground Execute
unfolding transition
low-rule b h l =
    let a = (direct_is b h).apart in
    rw (a 0x18 refl, a 0x1A refl, a 0x1B refl, lt-leb 0x80 b (omega arith), lt-ltb b 0x20 l)

direct-high : (b : ℕ) → is_direct b ≡ true → 0x80 ≤ b → b ≤ 0x9F
direct-high b h l =
    or_cases (ltb b 0x20) (between 0x80 b 0x9F) (direct_is b h).ranges (λ e. let low = ltb-true b 0x20 e in absurd (omega arith)) (between-high 0x80 b 0x9F)

pub direct-c1 : (s : Parser) (b : ℕ) → is_direct b ≡ true → 0x80 ≤ b → decode s b ≡ record { parser = in_phase Ground s; action = control_action b }
direct-c1 s b h l =
    let u = direct-high b h l in
    sequence.decode-by s b (to Ground C1) (high-rule s.phase b h l u)
    ∙ rw (in_between 0x80 b 0x9F l u, le-ltb b 0x80 l)

pub direct-decode : (s : Parser) (b : ℕ) → s.phase ≡ Ground → is_direct b ≡ true → decode s b ≡ record { parser = s; action = control_action b }
direct-decode s b g h =
    or_cases (ltb b 0x20) (between 0x80 b 0x9F) (direct_is b h).ranges
    (λ e. let low = ltb-true b 0x20 e in
    sequence.decode-by s b (to Ground Execute) (ap (λ (p : Phase). transition p b) g ∙ low-rule b h low)
    ∙ rw (lt-ltb b 0x80 (omega arith)) same)
    (λ e. direct-c1 s b h (between-low 0x80 b 0x9F e) ∙ same)
  where
    same : {a : Action} → ◌≡◌ {A = Decoded} (record { parser = in_phase Ground s; action = a }) (record { parser = s; action = a })
    same {a} = ap (λ (p : Phase). record { parser = in_phase p s; action = a }) (sym g)

pub direct-quiet : (b : ℕ) → is_direct b ≡ true → is_eventful (control_action b) ≡ false
direct-quiet b h = either (λ (a : Action). is_eventful a ≡ false) (ltb b 0x80) (λ _. refl) (λ _. (direct_is b h).apart 0x9A refl)

-- LF, VT, FF, in newline mode and without
fed-is : (c : Core) (t : Bool)
    → (let x = narrowed (cond t (next_lined c) (indexed c)) in one_edit (with_cursor c x.cursor) x.edit)
    ≡ with_wrap_policy true (cond t (next_lined c) (indexed c))
fed-is c true = refl
fed-is c false = refl

pub line-touch : (c : Core) (b : ℕ) → 0x0A ≤ b → b ≤ 0x0C
    → (let x = narrowed (line_fed c) in one_edit (with_cursor c x.cursor) x.edit) ≡ executed c (control_action b)
unfolding executed clears_wrap controlled
line-touch c b l u =
    let is = fed-is c c.modes.newline in
    at-number P b 0x0A is (λ n. at-number P b 0x0B is (λ m. at-number P b 0x0C is (λ k. absurd (omega arith))))
  where
    P : ℕ → Type 0
    P x = (let t = narrowed (line_fed c) in one_edit (with_cursor c t.cursor) t.edit) ≡ executed c (control_action x)
