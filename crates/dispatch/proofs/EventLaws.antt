-- What does not interrupt is no event: it draws no reply, and tells the status line nothing.
use Rattle.std.proofs.Common.{◌≡◌, ℕ, ◌+◌, ◌<◌, ◌≤◌, Bool, true, false, not, ◌&&◌, ◌||◌, eqb, ltb, Option, None, [], sym, refl, ap, ◌∙◌, arith, ne_eqb, eqb-true}
use mathlib.Core.Bool.{and-false}
use borrow.Author.Tests.{eqb-false}
use Rattle.ground.specs.Tests.{between}
use Rattle.ground.proofs.TestLaws.{or_cases, or_left, or_right, either}
use Rattle.parser.specs.declared.phases.Phase.{Phase}
use Rattle.parser.specs.declared.phases.Phase.TheVariants.{Ground}
use Rattle.parser.specs.declared.phases.Op.{Op}
use Rattle.parser.specs.declared.phases.Op.TheVariants.{Ignore, Print, Sub, Execute, C1, Clear, Collect, Mark, Param, EscDispatch, CsiDispatch}
use Rattle.parser.specs.declared.phases.Transition.{Transition}
use Rattle.parser.specs.declared.parser.Parser.{Parser}
use Rattle.parser.specs.declared.parser.Decoded.{Decoded}
use Rattle.parser.specs.declared.families.Function.{Function}
use Rattle.parser.specs.declared.parser.Action.{Action}
use Rattle.parser.specs.declared.parser.Action.TheVariants.{Nothing, Character, Substitute, Control, C1Control, EscapeSequence, ControlSequence}
use Rattle.parser.specs.Params.{param}
use Rattle.parser.specs.Phases.{is_ground}
use Rattle.parser.specs.Families.{is_soft_reset, is_dollar, is_plain, is_private}
use Rattle.parser.specs.Parser.{lowered, opens_string, transition, c1_byte, kept, action_of, decode}
use Rattle.parser.proofs.PhaseLaws.{phase-same}
use Rattle.parser.proofs.SequenceLaws.{decode-by}
use Rattle.device.specs.declared.sending.Reply.{Reply}
use Rattle.device.specs.ReplyBytes.{reply_bytes}
use Rattle.core_state.specs.declared.Core.{Core}
use Rattle.core_state.specs.declared.StatusLine.{StatusLine}
use Rattle.dispatch.specs.Replies.{reply}
use Rattle.dispatch.specs.Decide.{sends}
use Rattle.dispatch.specs.Displays.{no_edits, leaves_line, tells_line, line_told, line_edits}
use Rattle.dispatch.specs.Events.{is_notable, interrupts, is_eventful, heeded}
use Rattle.dispatch.proofs.HeardLaws.{reply-heard}

-- ---- notable finals

-- a byte that is none of them, test by test
record Unnotable (x : ℕ) : Type 0 where
  z : eqb x 0x5A ≡ false
  c : eqb x 0x63 ≡ false
  n : eqb x 0x6E ≡ false
  p : eqb x 0x70 ≡ false
  brace : eqb x 0x7D ≡ false
  tilde : eqb x 0x7E ≡ false

unnotable : (x : ℕ) → is_notable x ≡ false → Unnotable x
unnotable x h = record {
  z = or_left (eqb x 0x5A) _ h;
  c = or_left (eqb x 0x63) _ (or_right (eqb x 0x5A) _ h);
  n = or_left (eqb x 0x6E) _ (or_right (eqb x 0x63) _ (or_right (eqb x 0x5A) _ h));
  p = or_left (eqb x 0x70) _ (or_right (eqb x 0x6E) _ (or_right (eqb x 0x63) _ (or_right (eqb x 0x5A) _ h)));
  brace = or_left (eqb x 0x7D) _ (or_right (eqb x 0x70) _ (or_right (eqb x 0x6E) _ (or_right (eqb x 0x63) _ (or_right (eqb x 0x5A) _ h))));
  tilde = or_right (eqb x 0x7D) _ (or_right (eqb x 0x70) _ (or_right (eqb x 0x6E) _ (or_right (eqb x 0x63) _ (or_right (eqb x 0x5A) _ h))));
}

-- all of them end a sequence
pub notable-final : (x : ℕ) → is_notable x ≡ true → (0x40 ≤ x) × (x < 0x7F)
notable-final x h =
    or_cases (eqb x 0x5A) _ h (at 0x5A (omega arith, omega arith))
    (λ h1. or_cases (eqb x 0x63) _ h1 (at 0x63 (omega arith, omega arith))
    (λ h2. or_cases (eqb x 0x6E) _ h2 (at 0x6E (omega arith, omega arith))
    (λ h3. or_cases (eqb x 0x70) _ h3 (at 0x70 (omega arith, omega arith))
    (λ h4. or_cases (eqb x 0x7D) _ h4 (at 0x7D (omega arith, omega arith)) (at 0x7E (omega arith, omega arith))))))
  where
    at : (k : ℕ) → (0x40 ≤ k) × (k < 0x7F) → eqb x k ≡ true → (0x40 ≤ x) × (x < 0x7F)
    at k b e = rw (eqb-true x k e) b

-- ---- an action that interrupts nothing is no event

-- the control that a byte or ESC with it is
c1-quiet : (b : ℕ) → eqb b 0x9A ≡ false → eqb (lowered b) 0x5A ≡ false → eqb (c1_byte b) 0x9A ≡ false
c1-quiet b h z =
    either (λ (x : ℕ). eqb x 0x9A ≡ false) (between 0x80 b 0x9F) (λ _. h)
    (λ _. ne_eqb (lowered b + 0x40) 0x9A (λ e. let no = eqb-false (lowered b) 0x5A z in no (omega arith)))

-- in a sequence
sequence-quiet : (s : Parser) (op : Op) (b : ℕ) → eqb b 0x9A ≡ false → is_notable (lowered b) ≡ false → is_eventful (action_of s op b) ≡ false
sequence-quiet s Ignore b h n = refl
sequence-quiet s Print b h n = refl
sequence-quiet s Sub b h n = refl
sequence-quiet s Execute b h n = refl
sequence-quiet s C1 b h n = c1-quiet b h (unnotable (lowered b) n).z
sequence-quiet s Clear b h n = refl
sequence-quiet s Collect b h n = refl
sequence-quiet s Mark b h n = refl
sequence-quiet s Param b h n = refl
sequence-quiet s EscDispatch b h n = n
sequence-quiet s CsiDispatch b h n = n

-- in ground no sequence ends
ground-quiet : (s : Parser) (b : ℕ) → eqb b 0x9A ≡ false → is_eventful (action_of s (transition Ground b).op b) ≡ false
unfolding transition
ground-quiet s b h =
    let P : Transition → Type 0 = λ (t : Transition). is_eventful (action_of s t.op b) ≡ false in
    either P (eqb b 0x18) (λ _. refl)
    (λ _. either P (eqb b 0x1A) (λ _. refl)
    (λ _. either P (eqb b 0x1B) (λ _. refl)
    (λ _. either P (between 0x80 b 0x9F)
    (λ in-c1. either P (eqb b 0x9B) (λ _. refl) (λ _. either P (opens_string b) (λ _. refl) (λ _. rw in-c1 h)))
    (λ _. either P (ltb b 0x20) (λ _. refl) (λ _. refl)))))

pub left_false : (t : Bool) → (t && true) ≡ false → t ≡ false
left_false true h = h
left_false false h = refl

pub uninterrupted : (s : Parser) (b : ℕ) → interrupts s.phase b ≡ false → is_eventful (decode s b).action ≡ false
uninterrupted s b e =
    let h = or_left (eqb b 0x9A) (is_notable (lowered b) && not (is_ground s.phase)) e in
    let n = or_right (eqb b 0x9A) (is_notable (lowered b) && not (is_ground s.phase)) e in
    ap (λ (d : Decoded). is_eventful d.action) (decode-by s b (transition s.phase b) refl)
    ∙ go h n (is_ground s.phase) refl
  where
    go : eqb b 0x9A ≡ false → (is_notable (lowered b) && not (is_ground s.phase)) ≡ false → (t : Bool) → is_ground s.phase ≡ t
        → is_eventful (action_of s (transition s.phase b).op b) ≡ false
    go h n true g =
        ap (λ (p : Phase). is_eventful (action_of s (transition p b).op b)) (phase-same s.phase Ground g) ∙ ground-quiet s b h
    go h n false g = sequence-quiet s (transition s.phase b).op b h (left_false (is_notable (lowered b)) (rw g at n))

-- ---- and no event draws no reply and tells nothing

-- a claim of every action, by its kind
by-action : (P : Action → Type 0) → P Nothing → ((b : ℕ) → P (Character b)) → P Substitute → ((b : ℕ) → P (Control b)) → ((b : ℕ) → P (C1Control b))
    → ((first second last : ℕ) → P (EscapeSequence first second last)) → ((f : Function) → P (ControlSequence f)) → (a : Action) → P a
by-action P n ch su co c1 es cs Nothing = n
by-action P n ch su co c1 es cs (Character b) = ch b
by-action P n ch su co c1 es cs Substitute = su
by-action P n ch su co c1 es cs (Control b) = co b
by-action P n ch su co c1 es cs (C1Control b) = c1 b
by-action P n ch su co c1 es cs (EscapeSequence first second last) = es first second last
by-action P n ch su co c1 es cs (ControlSequence f) = cs f

silent-sequence : (c : Core) (f : Function) → is_notable f.last ≡ false → reply c (ControlSequence f) ≡ None
silent-sequence c f h =
    let u = unnotable f.last h in
    let P : Option Reply → Type 0 = λ (r : Option Reply). r ≡ None in
    either P (is_plain f.mark f.first f.second) (λ _. rw (u.c, u.n))
    (λ _. either P (is_private f.mark f.first f.second) (λ _. rw u.n) (λ _. rw (u.c, and-false)))

quiet-reply : (c : Core) (a : Action) → is_eventful a ≡ false → reply c a ≡ None
quiet-reply c =
    by-action (λ (a : Action). is_eventful a ≡ false → reply c a ≡ None) (λ h. refl) (λ b h. refl) (λ h. refl) (λ b h. refl) (λ b h. rw h)
    (λ first second last h. refl) (silent-sequence c)

pub quiet-sends : (c : Core) (b : ℕ) → is_eventful (decode c.parser b).action ≡ false → sends c b ≡ []
unfolding sends reply_bytes
quiet-sends c b h =
    let a = (decode c.parser b).action in
    ap (reply_bytes c.modes.eightbit) (sym (reply-heard c a) ∙ quiet-reply c a h)

pub quiet-tells : (a : Action) → is_eventful a ≡ false → tells_line a ≡ false
quiet-tells =
    by-action (λ (a : Action). is_eventful a ≡ false → tells_line a ≡ false) (λ h. refl) (λ b h. refl) (λ h. refl) (λ b h. refl) (λ b h. refl)
    (λ first second last h. rw (unnotable last h).c (and-false (eqb first 0)))
    (λ f h. let u = unnotable f.last h in rw (u.p, u.brace, u.tilde, and-false, and-false, and-false))

-- ---- what tells nothing

untold-sequence : (f : Function) → tells_line (ControlSequence f) ≡ false → (n : ℕ) (l : StatusLine) → line_told (ControlSequence f) n l ≡ l
untold-sequence f h n l =
    let soft = is_soft_reset f.mark f.first f.second f.last in
    let line = eqb f.last 0x7D in
    let type = eqb f.last 0x7E in
    let chosen = or_right soft _ h in
    rw (or_left soft _ h)
    (either (λ (x : StatusLine). x ≡ l) (is_dollar f.mark f.first f.second)
    (λ d. let neither : (line || type) ≡ false = rw d at chosen in
    rw (or_right line type neither, or_left line type neither))
    (λ _. refl))

pub untold : (a : Action) → tells_line a ≡ false → (n : ℕ) (l : StatusLine) → line_told a n l ≡ l
untold =
    by-action (λ (a : Action). tells_line a ≡ false → (n : ℕ) (l : StatusLine) → line_told a n l ≡ l) (λ h n l. refl) (λ b h n l. refl) (λ h n l. refl)
    (λ b h n l. refl) (λ b h n l. refl) (λ first second last h n l. rw h) untold-sequence

-- it is no reset
pub untold-leaves : (a : Action) → tells_line a ≡ false → leaves_line a ≡ false
untold-leaves =
    by-action (λ (a : Action). tells_line a ≡ false → leaves_line a ≡ false) (λ h. h) (λ b h. h) (λ h. h) (λ b h. h) (λ b h. h) (λ first second last h. h)
    (λ f h. or_left (is_soft_reset f.mark f.first f.second f.last) _ h)

-- a full reset is one of the two
pub stays-edits : (a : Action) → leaves_line a ≡ false → line_edits a ≡ no_edits
stays-edits =
    by-action (λ (a : Action). leaves_line a ≡ false → line_edits a ≡ no_edits) (λ h. refl) (λ b h. refl) (λ h. refl) (λ b h. refl) (λ b h. refl)
    (λ first second last h. rw h) (λ f h. refl)

-- the first parameter is the same before the byte that ends the sequence
pub told-selector : (s : Parser) (b : ℕ) (l : StatusLine)
    → line_told (decode s b).action (param (decode s b).parser.params 0) l ≡ line_told (decode s b).action (param s.params 0) l
unfolding decode
told-selector s b l = go (transition s.phase b).next (transition s.phase b).op
  where
    go : (p : Phase) (op : Op) → line_told (action_of s op b) (param (kept s p op b).params 0) l ≡ line_told (action_of s op b) (param s.params 0) l
    go p Ignore = refl
    go p Print = refl
    go p Sub = refl
    go p Execute = refl
    go p C1 = refl
    go p Clear = refl
    go p Collect = refl
    go p Mark = refl
    go p Param = refl
    go p EscDispatch = refl
    go p CsiDispatch = refl

-- ---- what is heeded of a byte tells what the byte tells

module _ (s : Parser) (b : ℕ) where
  abbrev action : Action
  action = (decode s b).action

  unheeded : interrupts s.phase b ≡ false → tells_line action ≡ false
  unheeded e = quiet-tells action (uninterrupted s b e)

  pub heeded-told : (l : StatusLine) → line_told (heeded s b) (param s.params 0) l ≡ line_told action (param (decode s b).parser.params 0) l
  heeded-told l =
      either (λ (a : Action). line_told a (param s.params 0) l ≡ line_told action (param (decode s b).parser.params 0) l) (interrupts s.phase b)
      (λ _. sym (told-selector s b l)) (λ e. sym (untold action (unheeded e) (param (decode s b).parser.params 0) l))

  pub heeded-tells : tells_line (heeded s b) ≡ tells_line action
  heeded-tells = either (λ (a : Action). tells_line a ≡ tells_line action) (interrupts s.phase b) (λ _. refl) (λ e. sym (unheeded e))

  pub heeded-leaves : leaves_line (heeded s b) ≡ leaves_line action
  heeded-leaves = either (λ (a : Action). leaves_line a ≡ leaves_line action) (interrupts s.phase b) (λ _. refl) (λ e. sym (untold-leaves action (unheeded e)))

  pub heeded-edits : line_edits (heeded s b) ≡ line_edits action
  heeded-edits =
      either (λ (a : Action). line_edits a ≡ line_edits action) (interrupts s.phase b) (λ _. refl)
      (λ e. sym (stays-edits action (untold-leaves action (unheeded e))))
