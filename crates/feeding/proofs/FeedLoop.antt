-- What the loop over the input keeps: the bytes read so far have been done, and their replies sent.
use Rattle.std.proofs.Common.{◌≡◌, ℕ, suc, ◌+◌, ◌-◌, ◌<◌, ◌≤◌, Bool, true, false, cond, ltb, List, [], ◌∷◌, ◌++◌, length, get_or, take, drop, sym, refl, ap, ◌∙◌, subst, append-nil, zero-le, add-zero, zero-add, add-one, arith, length-drop, drop_of_length-le, length-take-le, drop-cons, take-suc, le-ltb, lt-ltb}
use mathlib.Core.List.{append-eq-nil_iff}
use Rattle.ground.proofs.TestLaws.{either}
use Rattle.ground.specs.Writes.{Wrote}
use Rattle.ground.proofs.WriteLaws.{wrote_none, wrote-more}
use Rattle.ground.specs.Spans.{span}
use Rattle.ground.proofs.SpanLaws.{take-span, drop-span}
use Rattle.device.specs.ReplyBytes.{reply_bytes}
use Rattle.parser.specs.declared.parser.Action.{Action}
use Rattle.parser.specs.Parser.{decode}
use Rattle.core_state.specs.declared.Core.{Core}
use Rattle.core_state.specs.declared.Displays.{Displays}
use Rattle.core_state.specs.StatusLine.{line_view}
use Rattle.dispatch.specs.Replies.{reply_to}
use Rattle.dispatch.specs.Decide.{sends}
use Rattle.dispatch.specs.Displays.{carried_out, active, sends_of}
use Rattle.dispatch.specs.Events.{interrupts}
use Rattle.dispatch.proofs.EventLaws.{uninterrupted, quiet-sends}
use Rattle.steps.specs.declared.State.{State}
use Rattle.steps.specs.Steps.{Buffers, Screen, screen, stepped, ran, ran_displays, sent, readable}
use Rattle.steps.specs.Ready.{Ready}
use Rattle.steps.proofs.StepLaws.{ran_append, ran-displays, stepped-displays, sent-append, readable-fits, readable-full}
use Rattle.steps.proofs.StepLaws.{ReadyAt, ready-step, step-long, line-long, ready-ran, ran-long, line-ran}
use Rattle.feeding.specs.Bytes.{Fitted, Stopped, feeding_as, read_count, bytes_fed}
use Rattle.feeding.proofs.TurnLaws.{Turned}

-- ---- a byte's reply

-- it is that of the active display, in the width that both displays share
pub active-sends : (k : Displays) (b : ℕ) (a : Action) → a ≡ (decode k.core.parser b).action
    → reply_bytes k.core.modes.eightbit (reply_to (active k) a) ≡ sends_of k b
unfolding sends_of sends line_view
active-sends k b a e = rw e (go k.line.active)
  where
    go : (t : Bool) → let c = cond t (line_view k.core k.line) k.core in
        reply_bytes k.core.modes.eightbit (reply_to c (decode k.core.parser b).action) ≡ sends c b
    go true = refl
    go false = refl

-- a byte that does not interrupt draws none
pub uninterrupted-sends : (k : Displays) (b : ℕ) → interrupts k.core.parser.phase b ≡ false → sends_of k b ≡ []
unfolding sends_of line_view
uninterrupted-sends k b h =
    let quiet = uninterrupted k.core.parser b h in
    either (λ (c : Core). sends c b ≡ []) k.line.active (λ _. quiet-sends (line_view k.core k.line) b quiet) (λ _. quiet-sends k.core b quiet)

-- ---- what was fed

pub record FedSoFar (s₀ : State) (p₀ : Buffers) (input o₀ : List ℕ) (i : ℕ) (s : State) (p : Buffers) (o : List ℕ) (n : ℕ) : Type 0 where
  pub within : i ≤ length input
  pub screen-is : screen s p ≡ ran (screen s₀ p₀) (take i input)
  pub sending : Wrote o₀ 0 (sent s₀.displays (take i input)) o n
  pub room : n ≤ length o₀
  pub left : readable (length o₀) s₀.displays input ≡ i + readable (length o₀ - n) s.displays (drop i input)
  pub ready : Ready s p.page
  pub long : length p.page ≡ length p₀.page
  pub line-size : length p.line ≡ 80

pub fed-none : (s : State) (p : Buffers) (input o : List ℕ) → Ready s p.page → length p.line ≡ 80 → FedSoFar s p input o 0 s p o 0
unfolding ran sent
fed-none s p input o r h = record {
  within = zero-le;
  screen-is = refl;
  sending = wrote_none o 0;
  room = zero-le;
  left = ap (λ (n : ℕ). readable n s.displays input) (omega arith) ∙ sym (zero-add (readable (length o - 0) s.displays input));
  ready = r;
  long = refl;
  line-size = h;
}

-- ---- a run of bytes that send nothing

-- all of them are read, whatever room is left
readable-silent : (room : ℕ) (k : Displays) (xs ys : List ℕ) → sent k xs ≡ [] → readable room k (xs ++ ys) ≡ length xs + readable room (ran_displays k xs) ys
unfolding sent ran_displays
readable-silent room k [] ys e = omega arith
readable-silent room k (x ∷ xs) ys e =
    let none : (sends_of k x ≡ []) × (sent (carried_out k x).displays xs ≡ []) = append-eq-nil_iff.0 e in
    let same : room - length (sends_of k x) ≡ room = rw none.0 (omega arith) in
    let more = rw same at (readable-fits room k x (xs ++ ys) (rw none.0 zero-le)) in
    omega (arith, more, readable-silent room (carried_out k x).displays xs ys none.1)

span-length : (input : List ℕ) (i j : ℕ) → i ≤ j → j ≤ length input → i + length (span input i j) ≡ j
span-length input i j h l = omega (arith, length-take-le (j - i) (drop i input) (rw length-drop (omega arith)))

-- ---- the loop

module _ {s₀ : State} {p₀ : Buffers} {input o₀ : List ℕ} {i : ℕ} {s : State} {p : Buffers} {o : List ℕ} {n : ℕ} (R : FedSoFar s₀ p₀ input o₀ i s p o n) where
  displays-are : s.displays ≡ ran_displays s₀.displays (take i input)
  displays-are = ap (λ (d : Screen). d.displays) R.screen-is ∙ ran-displays (screen s₀ p₀) (take i input)

  -- the loop is left here
  ended : (full : Bool) → ltb (read_count s₀ input o₀) (length input) ≡ full → read_count s₀ input o₀ ≡ i → feeding_as full i n s p o ≡ bytes_fed s₀ p₀ input o₀
  ended full ea en =
      let out = R.sending.ends ∙ zero-add (length (sent s₀.displays (take i input))) in
      rw (ea, en, ← R.screen-is, ← R.sending.is, ← out)

  module _ (more : i < length input) (b : ℕ) (eb : b ≡ get_or input i 0) where
    taken : take (i + 1) input ≡ take i input ++ (b ∷ [])
    taken = rw (add-one, eb) (take-suc input i 0 more)

    rest : drop i input ≡ b ∷ drop (i + 1) input
    rest = rw (add-one, eb) (drop-cons input i 0 more)

    sent-next : sent s₀.displays (take (i + 1) input) ≡ sent s₀.displays (take i input) ++ sends_of s.displays b
    unfolding sent
    sent-next = rw (taken, sent-append, ← displays-are, append-nil)

    -- one byte more
    fed-more : (n' : ℕ) (o' : List ℕ) → Fitted s.displays b o n n' o' → (s' : State) (p' : Buffers) → screen s' p' ≡ stepped (screen s p) b
        → FedSoFar s₀ p₀ input o₀ (i + 1) s' p' o' n'
    unfolding ran
    fed-more n' o' F s' p' ed =
        let fits : length (sends_of s.displays b) ≤ length o₀ - n = omega (arith, F.room, R.sending.long) in
        let k' : s'.displays ≡ (carried_out s.displays b).displays = ap (λ (d : Screen). d.displays) ed ∙ stepped-displays (screen s p) b in
        let left' : length o₀ - n - length (sends_of s.displays b) ≡ length o₀ - n' = omega (arith, F.wrote.ends) in
        let one : readable (length o₀ - n) s.displays (drop i input) ≡ suc (readable (length o₀ - n') s'.displays (drop (i + 1) input)) =
        rw (rest, k', ← left') (readable-fits (length o₀ - n) s.displays b (drop (i + 1) input) fits) in
        record {
          within = omega arith;
          screen-is = cc (ed, R.screen-is, ran_append (screen s₀ p₀) (take i input) (b ∷ []), taken);
          sending = rw sent-next (wrote-more R.sending F.wrote);
          room = omega (arith, F.wrote.ends, R.room);
          left = omega (arith, R.left, one);
          ready = subst ReadyAt (sym ed) (ready-step (screen s p) b R.ready);
          long = ap (λ (d : Screen). length d.buffers.page) ed ∙ step-long (screen s p) b R.ready ∙ R.long;
          line-size = ap (λ (d : Screen). length d.buffers.line) ed ∙ line-long (screen s p) b R.ready R.line-size;
        }

    -- its reply does not fit
    pub fed-full : (o' : List ℕ) → Stopped s.displays b o n o' → feeding_as true i n s p o' ≡ bytes_fed s₀ p₀ input o₀
    fed-full o' T =
        let full : length o₀ - n < length (sends_of s.displays b) = omega (arith, T.room, R.sending.long) in
        let en : read_count s₀ input o₀ ≡ i = R.left ∙ rw (rest, readable-full (length o₀ - n) s.displays b (drop (i + 1) input) full) (add-zero i) in
        ap (feeding_as true i n s p) T.reply ∙ ended true (rw (en, lt-ltb i (length input) more)) en

  -- all is read
  pub fed-done : length input ≤ i → feeding_as false i n s p o ≡ bytes_fed s₀ p₀ input o₀
  unfolding readable
  fed-done all =
      let en : read_count s₀ input o₀ ≡ i = R.left ∙ rw (drop_of_length-le input all) (add-zero i) in
      ended false (rw (en, le-ltb i (length input) all)) en

  -- bytes that send nothing
  fed-span : (j : ℕ) → i ≤ j → j ≤ length input → sent s.displays (span input i j) ≡ [] → (s' : State) (p' : Buffers)
      → screen s' p' ≡ ran (screen s p) (span input i j) → FedSoFar s₀ p₀ input o₀ j s' p' o n
  fed-span j start end silent s' p' is =
      let xs : List ℕ = span input i j in
      let taken : take j input ≡ take i input ++ xs = take-span input i j start in
      let displays-are' : s'.displays ≡ ran_displays s.displays xs = ap (λ (d : Screen). d.displays) is ∙ ran-displays (screen s p) xs in
      let sent_is : sent s₀.displays (take j input) ≡ sent s₀.displays (take i input) =
      rw (taken, sent-append, ← displays-are, silent) (append-nil (sent s₀.displays (take i input))) in
      let all : readable (length o₀ - n) s.displays (drop i input) ≡ length xs + readable (length o₀ - n) s'.displays (drop j input) =
      ap (readable (length o₀ - n) s.displays) (drop-span input i j start)
      ∙ rw displays-are' (readable-silent (length o₀ - n) s.displays xs (drop j input) silent) in
      record {
        within = end;
        screen-is = cc (is, R.screen-is, ran_append (screen s₀ p₀) (take i input) xs, taken);
        sending = rw sent_is R.sending;
        room = R.room;
        left = omega (arith, R.left, all, span-length input i j start end);
        ready = subst ReadyAt (sym is) (ready-ran (screen s p) xs R.ready);
        long = ap (λ (d : Screen). length d.buffers.page) is ∙ ran-long (screen s p) xs R.ready ∙ R.long;
        line-size = ap (λ (d : Screen). length d.buffers.line) is ∙ line-ran (screen s p) xs R.ready R.line-size;
      }

-- ---- a turn

-- the reply of its first byte fits
pub fed-turn : {s₀ : State} {p₀ : Buffers} {input o₀ : List ℕ} {i : ℕ} {s : State} {p : Buffers} {o : List ℕ} {n : ℕ} → FedSoFar s₀ p₀ input o₀ i s p o n
    → i < length input → (b : ℕ) → b ≡ get_or input i 0 → (n' : ℕ) (o' : List ℕ) → Fitted s.displays b o n n' o'
    → (m : ℕ) (s' : State) (p' : Buffers) → Turned input i m s p b s' p' → FedSoFar s₀ p₀ input o₀ (i + m) s' p' o' n'
unfolding ran
fed-turn {input = input} {i = i} {s = s} {p = p} R more b eb n' o' F m s' p' T =
    let d = stepped (screen s p) b in
    let M = fed-more R more b eb n' o' F (record { displays = d.displays; tracked = d.tracked }) d.buffers refl in
    fed-span M (i + m) (omega (arith, T.some)) T.within (rw (stepped-displays (screen s p) b) T.silent) s' p' T.screen-is
