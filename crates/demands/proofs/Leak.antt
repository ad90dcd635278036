-- Nothing of page and line reaches the modem: what a feeding does, but for page, line and what is tracked, is a function of the displays, the input
-- and the room. So is what the feedings of a list of calls do, one after the other.
use Rattle.std.proofs.Common.{◌≡◌, ℕ, Bool, true, false, cond, ltb, List, [], ◌∷◌, ◌++◌, map, length, take, sym, refl, ap, ◌∙◌, ap₂}
use mathlib.Core.List.{map-append}
use Rattle.core_state.specs.declared.Displays.{Displays}
use Rattle.steps.specs.declared.State.{State}
use Rattle.steps.specs.Steps.{nothing_tracked, Buffers, buffers, Screen, stepped, ran, ran_displays, sent, readable, screen}
use Rattle.steps.specs.Whole.{whole_state, right_sizes}
use Rattle.steps.proofs.StepLaws.{ReadyAt, ready-step, line-long, ready-ran, ran-displays, sent-fits}
use Rattle.feeding.specs.Bytes.{read_count}
use Rattle.terminal.specs.Answers.{Answer, Done, Broken, WrongSize, NoRoom}
use Rattle.terminal.specs.Feed.{Feed, feed_as, fed}
use Rattle.terminal.proofs.CallLaws.{state-facts, state-tested, sizes-fit, fit-sizes, fed-broken, fed-size, fed-processed, fed-cases, Taken}
use Rattle.terminal.proofs.CallLaws.{fed-taken, asked-whole, asked-done}
use Rattle.demands.specs.Statements.{state_in}
use Rattle.demands.specs.Model.{Call, feeding, asking, reading, rowing}
use Rattle.demands.specs.World as W
use Rattle.demands.specs.World.{World, Item, Loan, Proper, Given}
use Rattle.demands.specs.Leak.{without_cells, LeftOut, Console, feeds, Alike, NoLeak, NoLeakOfWhole, Turn, turn_of, turns, given, shown, NoLeakEver}
use Rattle.demands.proofs.Demand1.{ask-returns-whole, front}
use Rattle.demands.proofs.Demand3.{hers, lent-hers, refused-left}

pub left_out : LeftOut
left_out f = refl

-- ---- what a feeding does

abbrev bare : Displays → State
bare k = record { displays = k; tracked = nothing_tracked }

-- one that is not refused
abbrev does : ℕ → Displays → List ℕ → Feed
does room k i =
    let n = readable room k i in
    let out = sent k (take n i) in
    feed_as (cond (ltb n (length i)) NoRoom Done) n (length out) (bare (ran_displays k (take n i))) (buffers [] []) out

fed-does : (s : State) (p : Buffers) (i o : List ℕ) → whole_state s ≡ true → right_sizes s.displays.core.rows p ≡ true
    → without_cells (fed s p i o) ≡ does (length o) s.displays i
fed-does s p i o e h =
    let read = take (readable (length o) s.displays i) i in
    rw (fed-processed s p i o e h, ran-displays (screen s p) read, front (sent s.displays read) o (sent-fits (length o) s.displays i))

abbrev refuses : Answer → Displays → Feed
refuses a k = feed_as a 0 0 (bare k) (buffers [] []) []

module _ (a : Console) (i : List ℕ) where
  abbrev s : State
  s = a.state

  broken-does : whole_state s ≡ false → without_cells (feeds a i) ≡ refuses Broken s.displays
  broken-does e = ap without_cells (fed-broken s a.buffers i _ e)

  -- one of a whole state, by whether page and line are of its size
  whole-does : whole_state s ≡ true
      → without_cells (feeds a i)
      ≡ cond (right_sizes s.displays.core.rows a.buffers) (does (length a.reply) s.displays i) (refuses WrongSize s.displays)
  whole-does e = go (right_sizes s.displays.core.rows a.buffers) refl
    where
      go : (u : Bool) → right_sizes s.displays.core.rows a.buffers ≡ u
          → without_cells (feeds a i) ≡ cond u (does (length a.reply) s.displays i) (refuses WrongSize s.displays)
      go true g = fed-does s a.buffers i _ e g
      go false g = ap without_cells (fed-size s a.buffers i _ e g)

-- ---- what it leaves

-- a state is whole, and page and line of its size, as they were
pub record Keeps (s : State) (p : Buffers) (t : State) (q : Buffers) : Type 0 where
  pub whole : whole_state t ≡ whole_state s
  pub size : right_sizes t.displays.core.rows q ≡ right_sizes s.displays.core.rows p

-- the line keeps its length, as the page does
line-ran : (d : Screen) (bs : List ℕ) → ReadyAt d → length d.buffers.line ≡ 80 → length (ran d bs).buffers.line ≡ 80
unfolding ran
line-ran d [] k h = h
line-ran d (b ∷ bs) k h = line-ran (stepped d b) bs (ready-step d b k) (line-long d b k h)

pub fed-keeps : (s : State) (p : Buffers) (i o : List ℕ) → Keeps s p (fed s p i o).result.state (fed s p i o).buffers
fed-keeps s p i o =
    fed-cases s p i o
    (λ e. rw (fed-broken s p i o e) (record { whole = refl; size = refl }))
    (λ e h. rw (fed-size s p i o e h) (record { whole = refl; size = refl }))
    (λ e h.
    let d = ran (screen s p) (take (read_count s i o) i) in
    let z = sizes-fit s.displays.core.rows p h in
    let r : ReadyAt (screen s p) = record { whole = state-facts s e; size = z.0 } in
    let k = ready-ran (screen s p) (take (read_count s i o) i) r in
    rw (fed-processed s p i o e h) (record {
      whole = state-tested (state_in d) k.whole ∙ sym e;
      size = fit-sizes d.displays.core.rows d.buffers k.size (line-ran (screen s p) (take (read_count s i o) i) r z.1) ∙ sym h;
    }))

-- ---- one feeding

module _ (a b : Console) (i : List ℕ) (e : Alike a b) where
  displays : a.state.displays ≡ b.state.displays
  displays = ap (λ (s : State). s.displays) e.states

  same-shown : without_cells (feeds a i) ≡ without_cells (feeds b i)
  same-shown = go (whole_state a.state) refl
    where
      go : (t : Bool) → whole_state a.state ≡ t → without_cells (feeds a i) ≡ without_cells (feeds b i)
      go true h = whole-does a i h ∙ rw (e.size h, e.room, displays) (sym (whole-does b i (sym e.whole ∙ h)))
      go false h = broken-does a i h ∙ ap (refuses Broken) displays ∙ sym (broken-does b i (sym e.whole ∙ h))

pub no-leak : NoLeak feeds
no-leak a b i e =
    let x = fed-keeps a.state a.buffers i a.reply in
    let y = fed-keeps b.state b.buffers i b.reply in
    record {
      shown = same-shown a b i e;
      alike = λ o r n. record {
        states = ap (λ (f : Feed). f.result.state) (same-shown a b i e);
        whole = x.whole ∙ e.whole ∙ sym y.whole;
        size = λ h. x.size ∙ e.size (sym x.whole ∙ h) ∙ sym y.size;
        room = n;
      };
    }

pub no-leak-of-whole : NoLeakOfWhole
no-leak-of-whole s t p q i o r ws wt e hp hq n =
    let right = fit-sizes s.displays.core.rows p hp.page hp.line ∙ sym (fit-sizes t.displays.core.rows q hq.page hq.line) in
    let same = (no-leak (record { state = s; buffers = p; reply = o }) (record { state = t; buffers = q; reply = r }) i
    (record { states = e; whole = ws ∙ sym wt; size = λ _. right; room = n })).shown in
    record {
      answer = ap (λ (f : Feed). f.number) same;
      read = ap (λ (f : Feed). f.result.read) same;
      replied = ap (λ (f : Feed). f.result.replied) same;
      replies = ap (λ (f : Feed). f.reply) same;
      state = ap (λ (f : Feed). f.result.state) same;
    }

-- ---- feedings one after the other, by their inputs and rooms

abbrev turn : Displays → List ℕ × ℕ → Feed
turn k x = does x.1 k x.0

-- the displays after them, and what they do
unfoldable displays_after : Displays → List (List ℕ × ℕ) → Displays
displays_after k [] = k
displays_after k (x ∷ xs) = displays_after (turn k x).result.state.displays xs

unfoldable does_all : Displays → List (List ℕ × ℕ) → List Feed
does_all k [] = []
does_all k (x ∷ xs) = turn k x ∷ does_all (turn k x).result.state.displays xs

displays-append : (k : Displays) (xs ys : List (List ℕ × ℕ)) → displays_after k (xs ++ ys) ≡ displays_after (displays_after k xs) ys
unfolding displays_after
displays-append k [] ys = refl
displays-append k (x ∷ xs) ys = displays-append (turn k x).result.state.displays xs ys

does-append : (k : Displays) (xs ys : List (List ℕ × ℕ)) → does_all k (xs ++ ys) ≡ does_all k xs ++ does_all (displays_after k xs) ys
unfolding displays_after does_all
does-append k [] ys = refl
does-append k (x ∷ xs) ys = rw (does-append (turn k x).result.state.displays xs ys)

-- ---- calls that lead from one world to another

record Leads (w v : World) (ts : List Turn) : Type 0 where
  displays : v.state.displays ≡ displays_after w.state.displays (map given ts)
  does : map shown ts ≡ does_all w.state.displays (map given ts)
  keeps : Keeps w.state w.buffers v.state v.buffers

leads-on : (w v u : World) (ts us : List Turn) → Leads w v ts → Leads v u us → Leads w u (ts ++ us)
leads-on w v u ts us L M =
    let k = w.state.displays in
    record {
      displays = M.displays ∙ ap (λ (d : Displays). displays_after d (map given us)) L.displays
          ∙ sym (ap (displays_after k) (map-append given ts us) ∙ displays-append k (map given ts) (map given us));
      does = map-append shown ts us
          ∙ ap₂ (λ (x y : List Feed). x ++ y) L.does (M.does ∙ ap (λ (d : Displays). does_all d (map given us)) L.displays)
          ∙ sym (ap (does_all k) (map-append given ts us) ∙ does-append k (map given ts) (map given us));
      keeps = record { whole = M.keeps.whole ∙ L.keeps.whole; size = M.keeps.size ∙ L.keeps.size };
    }

stays : (w : World) → Leads w w []
unfolding displays_after does_all
stays w = record { displays = refl; does = refl; keeps = record { whole = refl; size = refl } }

module _ (w : World) where
  feeding-leads : (i o : List ℕ) → W.refuses w w.state hers (feeding i o) ≡ false
      → Leads w (W.world_after w w.state hers (feeding i o)) (turn_of w w.state hers (feeding i o))
  unfolding displays_after does_all
  feeding-leads i o h =
      let t : Taken w.state w.buffers = fed-taken w.state w.buffers i o h in
      let e = fed-does w.state w.buffers i o t.whole t.sizes in
      record {
        displays = rw h (ap (λ (f : Feed). f.result.state.displays) e);
        does = ap (λ (f : Feed). f ∷ []) e;
        keeps = rw h (fed-keeps w.state w.buffers i o);
      }

  asking-leads : (l : Loan) → W.refuses w w.state l asking ≡ false → Leads w (W.world_after w w.state l asking) []
  unfolding displays_after does_all
  asking-leads l h =
      let e = asked-whole w.state h in
      let done = asked-done w.state e in
      record {
        displays = rw (h, done);
        does = refl;
        keeps = record { whole = rw h (ask-returns-whole w.state h ∙ sym e); size = rw (h, done) };
      }

  -- one that is not refused, given the newest state, her page and her line
  given-leads : (call : Call) (s : State) (l : Loan) → s ≡ w.state → W.LentEntire call l → W.refuses w s l call ≡ false
      → Leads w (W.world_after w s l call) (turn_of w s l call)
  given-leads (feeding i o) s l es el h = rw (es, lent-hers l el) (feeding-leads i o (rw (es, lent-hers l el) at h))
  given-leads asking s l es el h = rw es (asking-leads l (rw es at h))
  given-leads (reading i j) s l es el h = stays w
  given-leads (rowing i) s l es el h = stays w

-- ---- every list

item-leads : (w : World) (x : Item) → (W.is_refused w x ≡ false → Given w x) → (t : Bool) → W.is_refused w x ≡ t
    → Leads w (W.next w x) (cond (W.is_refused w x) [] (turn_of w x.state x.lent x.call))
item-leads w x G true e = rw (e, refused-left w x.call x.state x.lent e) (stays w)
item-leads w x G false e = rw e (given-leads w x.call x.state x.lent (G e).newest (G e).lends e)

list-leads : (w : World) (xs : List Item) → Proper w xs → Leads w (W.ends_at w xs) (turns w xs)
unfolding turns W.ends_at
list-leads w [] P = stays w
list-leads w (x ∷ xs) P =
    leads-on w (W.next w x) (W.ends_at (W.next w x) xs) _ (turns (W.next w x) xs) (item-leads w x P.0 (W.is_refused w x) refl)
    (list-leads (W.next w x) xs P.1)

pub no-leak-ever : NoLeakEver
no-leak-ever w v xs ys e P Q same =
    let x = list-leads w xs P in
    let y = list-leads v ys Q in
    let k : w.state.displays ≡ v.state.displays = ap (λ (s : State). s.displays) e.states in
    record {
      same = x.does ∙ ap₂ does_all k same ∙ sym y.does;
      alike = record {
        states = ap bare (x.displays ∙ ap₂ displays_after k same ∙ sym y.displays);
        whole = x.keeps.whole ∙ e.whole ∙ sym y.keeps.whole;
        size = λ h. x.keeps.size ∙ e.size (sym x.keeps.whole ∙ h) ∙ sym y.keeps.size;
        room = refl;
      };
    }
