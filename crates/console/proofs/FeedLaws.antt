-- One call reads a byte at least, and does what it read; calls one after the other do all the input; a start on 1,920 words and 80 is not refused.
use Rattle.std.proofs.Common.{◌≡◌, ℕ, ◌+◌, ◌-◌, ◌*◌, ◌<◌, ◌≤◌, List, length, take, drop, sym, refl, ap, ◌∙◌, subst, ap₂, zero-le, arith, lit<, true≢false, length-drop, take_all, take-add}
use lib.ListN.{length-replicate}
use Rattle.cells.specs.Cells.{blank}
use Rattle.core_state.specs.Fresh.{fresh_core}
use Rattle.wholeness.proofs.Wholeness.{sized_rows, fresh-whole}
use Rattle.wholeness.proofs.SoundDisplays.{fresh-line}
use Rattle.steps.specs.declared.State.{State}
use Rattle.terminal.specs.Feed.{Feed, fitting, feed_first, feed_told, fed}
use Rattle.terminal.specs.Start.{Start, start_as, fresh, blank_page, blank_buffers, start_told, started}
use Rattle.std.specs.Prelude.{Result, Ok, Err, IsOk, true, false}
use Rattle.terminal.specs.declared.Refused.{Refused}
use Rattle.terminal.specs.Answers.{Done, refusal}
use Rattle.steps.specs.Steps.{Screen, Buffers, buffers, ran, screen}
use Rattle.feeding.specs.declared.bytes.FedBytes.{FedBytes}
use Rattle.feeding.specs.Bytes.{read_count}
use Rattle.steps.specs.Ready.{Ready}
use Rattle.steps.proofs.StepLaws.{ReadyAt, ready-ran, ran_append, readable-most}
use Rattle.terminal.proofs.CallLaws.{refusing, fed-ok, fit-sizes, reads-one, state-tested, fed-processed, started-as}
use Rattle.console.specs.Feeding.{RanOver}

-- ---- one call

pub record OneCall (s : State) (p : Buffers) (i : List ℕ) (r : FedBytes) (p' : Buffers) : Type 0 where
  pub some : 1 ≤ r.read
  pub most : r.read ≤ length i
  pub over : RanOver s p (take r.read i) r.state p'

pub one-call : (s : State) (p : Buffers) (i o : List ℕ) (r : FedBytes) (p' : Buffers) (o' : List ℕ)
    → Ready s p.page → length p.line ≡ 80 → 11 ≤ length o → 0 < length i
    → feed_told (Ok r) p' o' ≡ fed s p i o → OneCall s p i r p'
one-call s p i o r p' o' k l room more e =
    let n : ℕ = read_count s i o in
    let d : Screen = ran (screen s p) (take n i) in
    let run : feed_told (Ok r) p' o' ≡ feed_first (fitting s i o) n s p i o =
    e ∙ fed-processed s p i o (state-tested s k.whole) (fit-sizes s.displays.core.rows p k.size l) in
    let count : r.read ≡ n = ap (λ (f : Feed). f.result.read) run in
    let whole : screen r.state p' ≡ d = ap₂ screen (ap (λ (f : Feed). f.result.state) run) (ap (λ (f : Feed). f.buffers) run) in
    record {
      some = rw count (reads-one (length o) s.displays i k.whole.displays more room);
      most = rw count (readable-most (length o) s.displays i);
      over = record {
        screen-is = rw count whole;
        ready = subst ReadyAt (sym whole) (ready-ran (screen s p) (take n i) k);
      };
    }

-- ---- one call after the other

-- the bytes before a place are done
pub record Going (s₀ : State) (p₀ : Buffers) (input o₀ : List ℕ) (s : State) (p : Buffers) (o : List ℕ) (from : ℕ) : Type 0 where
  pub within : from ≤ length input
  pub page-long : length p.page ≡ length p₀.page
  pub line-long : length p.line ≡ length p₀.line
  pub reply-long : length o ≡ length o₀
  pub over : RanOver s₀ p₀ (take from input) s p

pub going-none : (s : State) (p l input o : List ℕ) → Ready s p → Going s (buffers p l) input o s (buffers p l) o 0
unfolding ran
going-none s p l input o k =
    record { within = zero-le; page-long = refl; line-long = refl; reply-long = refl; over = record { screen-is = refl; ready = k } }

module _ {s₀ : State} {p₀ : Buffers} {input o₀ : List ℕ} {s : State} {p : Buffers} {o : List ℕ} {from : ℕ} (g : Going s₀ p₀ input o₀ s p o from) where
  over-more : (n : ℕ) {s' : State} {p' : Buffers} → RanOver s p (take n (drop from input)) s' p' → RanOver s₀ p₀ (take (from + n) input) s' p'
  over-more n b = record {
    screen-is =
        b.screen-is ∙ ap (λ (d : Screen). ran d (take n (drop from input))) g.over.screen-is
        ∙ sym (ran_append (screen s₀ p₀) (take from input) (take n (drop from input)))
        ∙ ap (ran (screen s₀ p₀)) (sym (take-add from n input));
    ready = b.ready;
  }

  -- a call reads some of the bytes from there on, and does them
  module _ (r : FedBytes) (p' : Buffers) (o' : List ℕ) (lined : length p₀.line ≡ 80) (room : 11 ≤ length o₀) (more : from < length input)
      (lp : length p'.page ≡ length p.page) (ll : length p'.line ≡ length p.line) (lo : length o' ≡ length o)
      (e : feed_told (Ok r) p' o' ≡ fed s p (take (length input - from) (drop from input)) o) where
    one : OneCall s p (drop from input) r p'
    one =
        let rest = take_all (length input - from) (drop from input) (simp length-drop (omega arith)) in
        one-call s p (drop from input) o r p' o' g.over.ready (g.line-long ∙ lined) (omega arith) (simp length-drop (omega arith)) (rw rest at e)

    pub turn-within : from + r.read ≤ length input
    turn-within = omega (arith, one.most, length-drop from input)

    pub turn-less : length input - (from + r.read) < length input - from
    turn-less = omega (arith, one.some)

    pub turn-next : Going s₀ p₀ input o₀ r.state p' o' (from + r.read)
    turn-next = record {
      within = turn-within;
      page-long = lp ∙ g.page-long;
      line-long = ll ∙ g.line-long;
      reply-long = lo ∙ g.reply-long;
      over = over-more r.read one.over;
    }

  pub going-all : length input ≤ from → RanOver s₀ p₀ input s p
  going-all h = subst (λ (xs : List ℕ). RanOver s₀ p₀ xs s p) (take_all from input h) g.over

  -- the call is not refused
  pub turn-ok : (r : Result FedBytes (Refused FedBytes)) (p' : Buffers) (o' : List ℕ) → length p₀.line ≡ 80
      → feed_told r p' o' ≡ fed s p (take (length input - from) (drop from input)) o → IsOk r
  turn-ok r p' o' lined e =
      fed-ok s p (take (length input - from) (drop from input)) o r p' o' (record {
        whole = state-tested s g.over.ready.whole;
        sizes = fit-sizes s.displays.core.rows p g.over.ready.size (g.line-long ∙ lined);
      }) e

-- ---- the start

fresh-ready : Ready (fresh 24) (blank_page 24)
unfolding fresh_core
fresh-ready = record {
  whole = record {
    displays = record { core = fresh-whole 24 (sized_rows 24 refl); line = fresh-line (fresh_core 24).modes.autowrap };
    size = refl;
    changed = lit< tt;
  };
  size = length-replicate (80 * 24) blank;
}

module _ (p l : List ℕ) (r : Result State (Refused State)) (p' l' : List ℕ) (e : start_told r (buffers p' l') ≡ started 24 (buffers p l))
    (h : length p ≡ 1920) (k : length l ≡ 80) where
  begun : start_told r (buffers p' l') ≡ start_as Done (fresh 24) (blank_buffers 24)
  begun = e ∙ started-as 24 (buffers p l) Done (rw (fit-sizes 24 (buffers p l) h k))

  pub start-ok : IsOk r
  start-ok = go r begun
    where
      go : (r : Result State (Refused State)) → start_told r (buffers p' l') ≡ start_as Done (fresh 24) (blank_buffers 24) → IsOk r
      go (Ok s) e = refl
      go (Err x) e = absurd (true≢false (sym (refusing x.refusal) ∙ ap (λ (d : Start). refusal d.result.answer) e))

  pub start-ready : (s : State) → r ≡ Ok s → Ready s p'
  start-ready s is =
      let done = rw is at begun in
      subst (λ (x : Start). Ready x.result.state x.buffers.page) (sym done) fresh-ready
