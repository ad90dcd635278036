-- Demand 2: feeding in several calls, each done, equals feeding at once. It is the law of a run over appended input.
use Rattle.std.proofs.Common.{◌≡◌, ℕ, List, [], ◌∷◌, ◌++◌, length, take, sym, refl, ap, ◌∙◌, ap₂, arith, take_all}
use Rattle.core_state.specs.declared.Displays.{Displays}
use Rattle.steps.specs.declared.State.{State}
use Rattle.steps.specs.Steps.{Buffers, Screen, ran, ran_displays, sent, screen}
use Rattle.feeding.specs.Bytes.{read_count}
use Rattle.terminal.specs.Feed.{Feed, fitting, feed_first, fed}
use Rattle.steps.proofs.StepLaws.{ran_append, ran-displays, sent-append, sent-fits}
use Rattle.terminal.proofs.CallLaws.{fit-sizes, fed-processed}
use Rattle.demands.specs.Statements.{state_in, Part, sent_by, several, AllDone, input_of, Demand2}
use Rattle.demands.proofs.Demand1.{feed-is-exact, front}

-- page and line, a state and the bytes sent are those of a run over an input
record FoldOf (s : State) (p : Buffers) (i : List ℕ) (q : Buffers) (t : State) (out : List ℕ) : Type 0 where
  buffers : q ≡ (ran (screen s p) i).buffers
  state : t ≡ state_in (ran (screen s p) i)
  bytes : out ≡ sent s.displays i

-- one call that is done has read all its input
read_all : (s : State) (p : Buffers) (i o : List ℕ) → (fed s p i o).number ≡ 0
    → FoldOf s p i (fed s p i o).buffers (fed s p i o).result.state (sent_by (fed s p i o))
read_all s p i o h =
    let d = (feed-is-exact s p i o).done.0 h in
    let run : fed s p i o ≡ feed_first (fitting s i o) (read_count s i o) s p i o =
    fed-processed s p i o d.0 (fit-sizes s.displays.core.rows p d.1.page d.1.line) in
    let n : read_count s i o ≡ length i = sym (ap (λ (f : Feed). f.result.read) run) ∙ (feed-is-exact s p i o).all_read h in
    let all : take (read_count s i o) i ≡ i = take_all (read_count s i o) i (omega arith) in
    let sent-all = front (sent s.displays (take (read_count s i o) i)) o (sent-fits (length o) s.displays i) in
    record { buffers = rw (run, all); state = rw (run, all); bytes = rw run (sent-all ∙ ap (sent s.displays) all) }

-- ---- several calls

-- what they leave is what one run over all their input leaves
fold-of : (s : State) (p : Buffers) (xs : List Part) → AllDone s p xs
    → FoldOf s p (input_of xs) (several s p xs).buffers (several s p xs).state (several s p xs).sent
unfolding ran sent
fold-of s p [] h = record { buffers = refl; state = refl; bytes = refl }
fold-of s p (x ∷ xs) h =
    let f : Feed = fed s p x.input x.reply in
    let a = read_all s p x.input x.reply h.0 in
    let b = fold-of f.result.state f.buffers xs h.1 in
    let mid : screen f.result.state f.buffers ≡ ran (screen s p) x.input = ap₂ screen a.state a.buffers in
    let whole : ran (screen f.result.state f.buffers) (input_of xs) ≡ ran (screen s p) (x.input ++ input_of xs) =
    ap (λ (d : Screen). ran d (input_of xs)) mid ∙ sym (ran_append (screen s p) x.input (input_of xs)) in
    let displays : f.result.state.displays ≡ ran_displays s.displays x.input =
    ap (λ (t : State). t.displays) a.state ∙ ran-displays (screen s p) x.input in
    record {
      buffers = b.buffers ∙ ap (λ (d : Screen). d.buffers) whole;
      state = b.state ∙ ap state_in whole;
      bytes = ap₂ (λ (u v : List ℕ). u ++ v) a.bytes (b.bytes ∙ ap (λ (k : Displays). sent k (input_of xs)) displays)
          ∙ sym (sent-append s.displays x.input (input_of xs));
    }

pub demand-2 : Demand2
demand-2 s p xs o e h done room =
    let g = fold-of s p xs done in
    let i = input_of xs in
    let fits = rw g.bytes at room in
    let answered : (fed s p i o).number ≡ 0 = (feed-is-exact s p i o).done.1 (e, h, fits) in
    let a = read_all s p i o answered in
    record { answer = answered; buffers = a.buffers ∙ sym g.buffers; state = a.state ∙ sym g.state; sent = a.bytes ∙ sym g.bytes }
