-- What holds of a feeding holds of `pankholim_feed`, which promises the same definition: a whole record without changed rows and flag is that of a
-- state with nothing tracked, and of one that is not whole nothing is done.
use Rattle.std.proofs.Common.{◌≡◌, ℕ, Bool, true, false, cond, List, [], sym, refl, ap, ◌∙◌, ap₂}
use mathlib.Core.Bool.{false≢true}
use Rattle.steps.specs.declared.State.{State}
use Rattle.steps.specs.Steps.{nothing_tracked, buffers}
use Rattle.steps.specs.Whole.{whole_state}
use Rattle.terminal.specs.Answers.{refusal}
use Rattle.terminal.specs.Feed.{Feed}
use Rattle.terminal.proofs.CallLaws.{state-facts, fed-broken}
use Rattle.record.specs.declared.Terminal.{Terminal}
use Rattle.record.specs.Record.{record_of, core_of, line_of, named, state_of}
use Rattle.pankholim.specs.Leaves.{record_left}
use Rattle.demands.specs.Leak.{untracked, without_cells, Console, feeds}
use Rattle.demands.specs.LeakForC.{untracked_record, ConsoleForC, FedForC, FeedPromise, without_cells_for_c, AlikeForC, NoLeakForC}
use Rattle.demands.proofs.Leak.{fed-keeps, no-leak}

-- the state of a record whose numbers name something, with nothing tracked
abbrev named_state : Terminal → State
named_state t = record { displays = record { core = core_of t t.rows; line = line_of t.status }; tracked = nothing_tracked }

-- those of a whole one do: without rows no state is whole
state-untracked : (t : Terminal) → whole_state (state_of t) ≡ true → untracked (state_of t) ≡ named_state (untracked_record t)
unfolding state_of core_of
state-untracked t h = go (named t) refl
  where
    go : (u : Bool) → named t ≡ u → untracked (state_of t) ≡ named_state (untracked_record t)
    go true e = rw e
    go false e = absurd (false≢true (rw e at (state-facts (state_of t) h).size))

record-untracked : (r : Bool) (t : Terminal) (s : State) → untracked_record (cond r t (record_of s)) ≡ cond r (untracked_record t) (record_of (untracked s))
unfolding record_of
record-untracked true t s = refl
record-untracked false t s = refl

abbrev console_of : ConsoleForC → Console
console_of a = record { state = state_of a.terminal; buffers = a.buffers; reply = a.reply }

-- the call without what comes from cells, by the record and the feeding without it
abbrev does_for_c : Terminal → Feed → FedForC
does_for_c t f = record {
  number = f.number;
  terminal = record_left t f.result.answer f.result.state;
  buffers = f.buffers;
  reply = f.reply;
  read = f.result.read;
  replied = f.result.replied;
}

does-for-c : (a : ConsoleForC) (i : List ℕ) (x : FedForC) → FeedPromise a i x
    → without_cells_for_c x ≡ does_for_c (untracked_record a.terminal) (without_cells (feeds (console_of a) i))
does-for-c a i x P =
    let f : Feed = feeds (console_of a) i in
    rw (P.answer-is, P.terminal-is, P.reply-is, P.read_is, P.replied-is, record-untracked (refusal f.result.answer) a.terminal f.result.state)

-- of a record that is not whole, whatever its state
abbrev refused_for_c : Terminal → FedForC
refused_for_c t = record { number = 1; terminal = t; buffers = buffers [] []; reply = []; read = 0; replied = 0 }

broken-for-c : (a : ConsoleForC) (i : List ℕ) → whole_state (state_of a.terminal) ≡ false
    → does_for_c (untracked_record a.terminal) (without_cells (feeds (console_of a) i)) ≡ refused_for_c (untracked_record a.terminal)
broken-for-c a i h = rw (fed-broken (state_of a.terminal) a.buffers i a.reply h)

same-for-c : (a b : ConsoleForC) (i : List ℕ) → AlikeForC a b
    → does_for_c (untracked_record a.terminal) (without_cells (feeds (console_of a) i))
    ≡ does_for_c (untracked_record b.terminal) (without_cells (feeds (console_of b) i))
same-for-c a b i e = go (whole_state (state_of a.terminal)) refl
  where
    go : (t : Bool) → whole_state (state_of a.terminal) ≡ t
        → does_for_c (untracked_record a.terminal) (without_cells (feeds (console_of a) i))
        ≡ does_for_c (untracked_record b.terminal) (without_cells (feeds (console_of b) i))
    go true h =
        let states = state-untracked a.terminal h ∙ ap named_state e.records ∙ sym (state-untracked b.terminal (sym e.whole ∙ h)) in
        ap₂ does_for_c e.records
        (no-leak (console_of a) (console_of b) i (record { states = states; whole = e.whole; size = e.size; room = e.room })).shown
    go false h = broken-for-c a i h ∙ ap refused_for_c e.records ∙ sym (broken-for-c b i (sym e.whole ∙ h))

pub no-leak-for-c : NoLeakForC
no-leak-for-c a b i x y e P Q =
    let k = fed-keeps (state_of a.terminal) a.buffers i a.reply in
    let l = fed-keeps (state_of b.terminal) b.buffers i b.reply in
    let shown = does-for-c a i x P ∙ same-for-c a b i e ∙ sym (does-for-c b i y Q) in
    record {
      shown = shown;
      alike = λ o r n. record {
        records = ap (λ (z : FedForC). z.terminal) shown;
        whole = rw (P.state-is, Q.state-is) (k.whole ∙ e.whole ∙ sym l.whole);
        size = rw (P.state-is, Q.state-is, P.buffers-is, Q.buffers-is) (λ h. k.size ∙ e.size (sym k.whole ∙ h) ∙ sym l.size);
        room = n;
      };
    }
