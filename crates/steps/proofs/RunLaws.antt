-- Bytes on one display are bytes on both: a run on the page of which no byte tells the line anything.
use Rattle.std.proofs.Common.{◌≡◌, ℕ, Bool, true, false, cond, not, ◌&&◌, ◌||◌, eqb, List, [], ◌∷◌, ◌++◌, sym, refl, ap, ◌∙◌, ap₂}
use Rattle.parser.specs.Parser.{decode}
use Rattle.core_state.specs.declared.Core.{Core}
use Rattle.core_state.specs.declared.StatusLine.{StatusLine}
use Rattle.core_state.specs.declared.Displays.{Displays}
use Rattle.core_state.specs.StatusLine.{line_view, line_beside}
use Rattle.dispatch.specs.Decide.{decided, sends}
use Rattle.dispatch.specs.Displays.{Edits, leaves_line, tells_line, carried_out, sends_of}
use Rattle.dispatch.proofs.EventLaws.{quiet-sends, quiet-tells, untold, untold-leaves, stays-edits}
use Rattle.steps.specs.declared.Tracked.{Tracked}
use Rattle.steps.specs.Steps.{buffers, Screen, screen, edited_by, nothing_tracked, stepped, ran, sent}
use Rattle.steps.specs.OneDisplay.{Display, display, acts, acts_over, lasting, AllQuiet}
use Rattle.steps.specs.Ready.{state_from}
use Rattle.steps.proofs.StepLaws.{stepped-displays}
use Rattle.steps.proofs.DisplayLaws.{lasting-first}
use Rattle.steps.proofs.ByteLaws.{selector, page-stepped}

-- a wrap due
abbrev pub with_due : StatusLine → Bool → StatusLine
with_due l w = record { present = l.present; active = l.active; column = l.column; wrap = w; saved = l.saved }

-- ---- one byte

-- the page after it, and the line beside it
abbrev page_next : Display → StatusLine → Bool → Bool → List ℕ → Screen
page_next d l on flag cells = screen (state_from d.core (line_beside l on) (record { changed = d.changed; flag = flag })) (buffers d.cells cells)

untold-stepped : (c : Core) (l : StatusLine) (t : Tracked) (p cells : List ℕ) (b : ℕ) → l.active ≡ false → tells_line (decode c.parser b).action ≡ false
    → let d = acts (display c p t.changed) b in stepped (screen (state_from c l t) (buffers p cells)) b ≡ page_next d l d.core.modes.autowrap t.flag cells
untold-stepped c l t p cells b off h =
    let a = (decode c.parser b).action in
    let d = acts (display c p t.changed) b in
    page-stepped c l t p cells b (ap (λ (x : Bool). x && not (leaves_line a)) off)
    ∙ ap₂ (λ (m : StatusLine) (e : Edits). let n = edited_by 1 e cells in
    record {
      displays = record { core = d.core; line = m };
      buffers = buffers d.cells n.page;
      tracked = record { changed = d.changed; flag = not (eqb n.changed 0) || t.flag };
    }) (untold a h (selector c l t p cells b) (line_beside l d.core.modes.autowrap)) (stays-edits a (untold-leaves a h))

-- the displays, which depend on no cell
untold-displays : (c : Core) (l : StatusLine) (b : ℕ) → l.active ≡ false → tells_line (decode c.parser b).action ≡ false
    → (carried_out (record { core = c; line = l }) b).displays ≡ record { core = (decided c b).core; line = line_beside l (decided c b).core.modes.autowrap }
unfolding acts
untold-displays c l b off h =
    sym (stepped-displays (screen (state_from c l nothing_tracked) (buffers [] [])) b)
    ∙ ap (λ (z : Screen). z.displays) (untold-stepped c l nothing_tracked [] [] b off h)

-- ---- one after the other

due-again : (w on : Bool) → ((w && on) && on) ≡ (w && on)
due-again true true = refl
due-again true false = refl
due-again false on = refl

due-more : (w on next rest : Bool) → (w && on) ≡ w → (next && rest) ≡ rest → ((w && next) && rest) ≡ (w && (on && rest))
due-more true on next rest h e = e ∙ sym (ap (λ (x : Bool). x && rest) h)
due-more false on next rest h e = refl

abbrev pub page_over : Core → StatusLine → Tracked → List ℕ → List ℕ → List ℕ → Screen
page_over c l t p cells xs = page_next (acts_over (display c p t.changed) xs) l (lasting c xs) t.flag cells

page-more : (c : Core) (l : StatusLine) (t : Tracked) (p cells : List ℕ) (b : ℕ) (bs : List ℕ) → l.active ≡ false → (l.wrap && c.modes.autowrap) ≡ l.wrap
    → tells_line (decode c.parser b).action ≡ false
    → (let d = acts (display c p t.changed) b in let l' = line_beside l d.core.modes.autowrap in
    let t' : Tracked = record { changed = d.changed; flag = t.flag } in
    ran (screen (state_from d.core l' t') (buffers d.cells cells)) bs ≡ page_over d.core l' t' d.cells cells bs)
    → ran (screen (state_from c l t) (buffers p cells)) (b ∷ bs) ≡ page_over c l t p cells (b ∷ bs)
unfolding ran acts acts_over lasting
page-more c l t p cells b bs off due h rest =
    let c' = (decided c b).core in
    let e = acts_over (acts (display c p t.changed) b) bs in
    ap (λ (z : Screen). ran z bs) (untold-stepped c l t p cells b off h)
    ∙ rest
    ∙ ap (λ (w : Bool). screen (state_from e.core (with_due l w) (record { changed = e.changed; flag = t.flag })) (buffers e.cells cells))
    (due-more l.wrap c.modes.autowrap c'.modes.autowrap (lasting c' bs) due (lasting-first c' bs))

page-ran : (c : Core) (l : StatusLine) (t : Tracked) (p cells xs : List ℕ) → l.active ≡ false → (l.wrap && c.modes.autowrap) ≡ l.wrap → AllQuiet c xs
    → ran (screen (state_from c l t) (buffers p cells)) xs ≡ page_over c l t p cells xs
unfolding ran acts acts_over lasting AllQuiet
page-ran c l t p cells [] off due h = sym (ap (λ (w : Bool). screen (state_from c (with_due l w) t) (buffers p cells)) due)
page-ran c l t p cells (b ∷ bs) off due (q, h) =
    let d = acts (display c p t.changed) b in
    let on = d.core.modes.autowrap in
    page-more c l t p cells b bs off due (quiet-tells (decode c.parser b).action q)
    (page-ran d.core (line_beside l on) (record { changed = d.changed; flag = t.flag }) d.cells cells bs off (due-again l.wrap on) h)

quiet-sent : (c : Core) (l : StatusLine) (xs : List ℕ) → l.active ≡ false → AllQuiet c xs → sent (record { core = c; line = l }) xs ≡ []
unfolding sent sends_of AllQuiet
quiet-sent c l [] off h = refl
quiet-sent c l (b ∷ bs) off (q, h) =
    ap₂ (λ (x y : List ℕ). x ++ y) (ap (λ (t : Bool). sends (cond t (line_view c l) c) b) off ∙ quiet-sends c b q)
    (ap (λ (k : Displays). sent k bs) (untold-displays c l b off (quiet-tells (decode c.parser b).action q))
    ∙ quiet-sent (decided c b).core (line_beside l (decided c b).core.modes.autowrap) bs off h)

-- ---- a run, the first byte of which may draw a reply

module _ (c : Core) (l : StatusLine) (b : ℕ) (bs : List ℕ) (off : l.active ≡ false) (h : tells_line (decode c.parser b).action ≡ false)
    (q : AllQuiet (decided c b).core bs) where
  pub run_ran : (t : Tracked) (p cells : List ℕ) → (l.wrap && c.modes.autowrap) ≡ l.wrap
      → ran (screen (state_from c l t) (buffers p cells)) (b ∷ bs) ≡ page_over c l t p cells (b ∷ bs)
  unfolding acts
  run_ran t p cells due =
      let d = acts (display c p t.changed) b in
      let on = d.core.modes.autowrap in
      page-more c l t p cells b bs off due h
      (page-ran d.core (line_beside l on) (record { changed = d.changed; flag = t.flag }) d.cells cells bs off (due-again l.wrap on) q)

  pub run-silent : sent (carried_out (record { core = c; line = l }) b).displays bs ≡ []
  run-silent =
      ap (λ (k : Displays). sent k bs) (untold-displays c l b off h)
      ∙ quiet-sent (decided c b).core (line_beside l (decided c b).core.modes.autowrap) bs off q
