-- A feeding of bytes that are all done at once on the page, where the page is active: the input's end is reached, and nothing is sent.
use Rattle.std.proofs.Common.{◌≡◌, ℕ, ◌+◌, ◌-◌, Bool, false, cond, ◌&&◌, List, [], ◌∷◌, length, sym, refl, ap, ◌∙◌, subst, ap₂, zero-le, zero-add, arith, take_all}
use Rattle.ground.specs.Spans.{span}
use Rattle.ground.proofs.WriteLaws.{wrote_none}
use Rattle.parser.specs.Parser.{decode}
use Rattle.core_state.specs.declared.Core.{Core}
use Rattle.core_state.specs.StatusLine.{line_view}
use Rattle.dispatch.specs.Decide.{decided, sends}
use Rattle.dispatch.specs.Displays.{tells_line, sends_of}
use Rattle.dispatch.proofs.EventLaws.{quiet-sends, quiet-tells}
use Rattle.steps.specs.declared.State.{State}
use Rattle.steps.specs.Steps.{Buffers, buffers, screen, ran}
use Rattle.steps.specs.OneDisplay.{Display, display, acts_over, lasting, Quiet, AllQuiet}
use Rattle.steps.specs.Ready.{Ready, state_from}
use Rattle.steps.proofs.ByteLaws.{wrap-lasts}
use Rattle.steps.proofs.RunLaws.{with_due, run_ran, run-silent}
use Rattle.spans.specs.Spans.{Spanned}
use Rattle.feeding.specs.Bytes.{feeding_as, bytes_fed}
use Rattle.feeding.proofs.TurnLaws.{Turned}
use Rattle.feeding.proofs.FeedLoop.{fed-none, fed-turn, fed-done}

-- what is left of the state: the page's core and changed rows
abbrev pub page_done : State → Core → ℕ → State
page_done s c n = state_from c s.displays.line (record { changed = n; flag = s.tracked.flag })

all-span : (input : List ℕ) → span input 0 (length input) ≡ input
all-span input = take_all (length input - 0) input (omega arith)

rest-span : (b : ℕ) (bs : List ℕ) → span (b ∷ bs) (0 + 1) (0 + length (b ∷ bs)) ≡ bs
rest-span b bs = take_all (0 + length (b ∷ bs) - (0 + 1)) bs (omega arith)

module _ (s : State) (p : Buffers) (off : s.displays.line.active ≡ false)
    (due : (s.displays.line.wrap && s.displays.core.modes.autowrap) ≡ s.displays.line.wrap)
    (b : ℕ) (bs : List ℕ) (c' : Core) (n' : ℕ) (p' : List ℕ)
    (S : Spanned s.displays.core s.tracked.changed p.page (b ∷ bs) 0 (length (b ∷ bs)) c' n' p') where
  abbrev c : Core
  c = s.displays.core

  quiet : Quiet c b × AllQuiet (decided c b).core bs
  unfolding AllQuiet
  quiet = subst (AllQuiet c) (all-span (b ∷ bs)) S.quiet

  untelling : tells_line (decode c.parser b).action ≡ false
  untelling = quiet-tells (decode c.parser b).action quiet.0

  -- the first byte sends nothing
  unsent : sends_of s.displays b ≡ []
  unfolding sends_of
  unsent = ap (λ (t : Bool). sends (cond t (line_view c s.displays.line) c) b) off ∙ quiet-sends c b quiet.0

  after : screen (page_done s c' n') (buffers p' p.line) ≡ ran (screen s p) (b ∷ bs)
  after =
      let last : (s.displays.line.wrap && lasting c (b ∷ bs)) ≡ s.displays.line.wrap =
      ap (λ (x : Bool). s.displays.line.wrap && x) (sym (ap (lasting c) (all-span (b ∷ bs))) ∙ S.lasts) ∙ due in
      ap₂ (λ (d : Display) (w : Bool). screen (state_from d.core (with_due s.displays.line w) (record { changed = d.changed; flag = s.tracked.flag })) (buffers d.cells p.line))
      (S.display-is ∙ ap (acts_over (display c p.page s.tracked.changed)) (all-span (b ∷ bs))) (sym last)
      ∙ sym (run_ran c s.displays.line b bs off untelling quiet.1 s.tracked p.page p.line due)

  turned : Turned (b ∷ bs) 0 (length (b ∷ bs)) s p b (page_done s c' n') (buffers p' p.line)
  turned = record {
    some = omega arith;
    within = omega arith;
    screen-is = after ∙ ap (λ (xs : List ℕ). ran (screen s p) (b ∷ xs)) (sym (rest-span b bs));
    silent = rw (rest-span b bs) (run-silent c s.displays.line b bs off untelling quiet.1);
  }

pub once-fed : (s : State) (p : Buffers) (input o : List ℕ) (c' : Core) (n' : ℕ) (p' : List ℕ) → Ready s p.page → length p.line ≡ 80
    → s.displays.line.active ≡ false → Spanned s.displays.core s.tracked.changed p.page input 0 (length input) c' n' p'
    → feeding_as false (length input) 0 (page_done s c' n') (buffers p' p.line) o ≡ bytes_fed s p input o
unfolding acts_over
once-fed s p [] o c' n' p' k h off S =
    ap (λ (d : Display). feeding_as false 0 0 (page_done s d.core d.changed) (buffers d.cells p.line) o) S.display-is
    ∙ fed-done (fed-none s p [] o k h) zero-le
once-fed s p (b ∷ bs) o c' n' p' k h off S =
    let due = wrap-lasts s.displays.line.wrap s.displays.line.column s.displays.core.modes.autowrap k.whole.displays.line.wrap in
    let none = unsent s p off due b bs c' n' p' S in
    ap (λ (k : ℕ). feeding_as false k 0 (page_done s c' n') (buffers p' p.line) o) (sym (zero-add (length (b ∷ bs))))
    ∙ fed-done (fed-turn (fed-none s p (b ∷ bs) o k h) (omega arith) b refl 0 o (record { room = rw none zero-le; wrote = rw none (wrote_none o 0) })
    (length (b ∷ bs)) (page_done s c' n') (buffers p' p.line) (turned s p off due b bs c' n' p' S)) (omega arith)
