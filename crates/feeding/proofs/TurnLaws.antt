-- A turn: its first byte, on page or line, and what goes on with it on the page.
use Rattle.std.proofs.Common.{◌≡◌, ℕ, ◌+◌, ◌-◌, ◌<◌, ◌≤◌, Bool, true, false, cond, not, ◌&&◌, ◌||◌, eqb, List, [], ◌∷◌, length, get_or, take, drop, sym, refl, ap, ◌∙◌, subst, ap₂, arith, length-drop, length-take, take-take}
use Rattle.ground.specs.Spans.{span}
use Rattle.ground.proofs.SpanLaws.{span_none, span_more, span-append}
use Rattle.parser.specs.declared.parser.Action.{Action}
use Rattle.parser.specs.declared.parser.Action.TheVariants.{Nothing}
use Rattle.parser.specs.Params.{param}
use Rattle.parser.specs.Parser.{decode}
use Rattle.core_state.specs.declared.Core.{Core}
use Rattle.core_state.specs.declared.StatusLine.{StatusLine}
use Rattle.core_state.specs.declared.Displays.{Displays}
use Rattle.core_state.specs.Whole.{WholeDisplays}
use Rattle.core_state.specs.StatusLine.{line_view, page_behind, line_behind, line_beside}
use Rattle.dispatch.specs.Decide.{decided}
use Rattle.dispatch.specs.Displays.{Edits, leaves_line, tells_line, line_told, line_edits, acts_on_line, carried_out}
use Rattle.dispatch.specs.Events.{heeded}
use Rattle.dispatch.proofs.EventLaws.{left_false, untold, untold-leaves, stays-edits, heeded-told, heeded-tells, heeded-leaves, heeded-edits}
use Rattle.wholeness.proofs.SoundDisplays.{view-whole}
use Rattle.steps.specs.declared.State.{State}
use Rattle.steps.specs.declared.Tracked.{Tracked}
use Rattle.steps.specs.Steps.{Buffers, buffers, Screen, screen, edited_by, stepped, ran, sent}
use Rattle.steps.specs.OneDisplay.{Display, display, acts, acts_over, lasting, AllQuiet, RestQuiet}
use Rattle.steps.specs.Ready.{Paged, state_from}
use Rattle.steps.proofs.ByteLaws.{selector, page-stepped, line-stepped}
use Rattle.steps.proofs.RunLaws.{with_due, run_ran, run-silent}
use Rattle.feeding.specs.declared.display.Run.{Run}
use Rattle.feeding.specs.Runs.{Ran}

-- m bytes from a place on were done: one, and others that send nothing
pub record Turned (input : List ℕ) (i m : ℕ) (s : State) (p : Buffers) (b : ℕ) (s' : State) (p' : Buffers) : Type 0 where
  pub some : 0 < m
  pub within : i + m ≤ length input
  pub screen-is : screen s' p' ≡ ran (screen s p) (b ∷ span input (i + 1) (i + m))
  pub silent : sent (carried_out s.displays b).displays (span input (i + 1) (i + m)) ≡ []

module _ (c : Core) (l : StatusLine) (t : Tracked) (p cells : List ℕ) (b : ℕ) where
  abbrev action : Action
  action = (decode c.parser b).action

  abbrev heard : Action
  heard = heeded c.parser b

  abbrev first : ℕ
  first = param c.parser.params 0

  -- ---- on the page

  -- what is left of a turn on the page, whose action tells the line something or nothing
  abbrev page_left : Display → StatusLine → Action → ℕ → Screen
  page_left d m a n =
      let e = edited_by 1 (line_edits a) cells in
      screen (state_from d.core (line_told a n m) (record { changed = d.changed; flag = not (eqb e.changed 0) || t.flag })) (buffers d.cells e.page)

  page-heeded : (d : Display) (m : StatusLine) → page_left d m heard first ≡ page_left d m action (selector c l t p cells b)
  page-heeded d m =
      ap₂ (λ (k : StatusLine) (x : Edits). let e = edited_by 1 x cells in
      screen (state_from d.core k (record { changed = d.changed; flag = not (eqb e.changed 0) || t.flag })) (buffers d.cells e.page))
      (heeded-told c.parser b m) (heeded-edits c.parser b)

  page-untold : (d : Display) (m : StatusLine) → tells_line action ≡ false → page_left d m heard first ≡ page_left d m Nothing 0
  page-untold d m h =
      let un = heeded-tells c.parser b ∙ h in
      ap₂ (λ (k : StatusLine) (x : Edits). let e = edited_by 1 x cells in
      screen (state_from d.core k (record { changed = d.changed; flag = not (eqb e.changed 0) || t.flag })) (buffers d.cells e.page))
      (untold heard un first m) (stays-edits heard (untold-leaves heard un))

  due-one : (w on next : Bool) → (w && on) ≡ w → (w && (on && next)) ≡ (w && next)
  due-one true on next h = ap (λ (x : Bool). x && next) h
  due-one false on next h = refl

  module _ (due : (l.wrap && c.modes.autowrap) ≡ l.wrap) (r : Run) (p' xs bs : List ℕ) (e : take r.read xs ≡ b ∷ bs)
      (R : Ran c t.changed p xs r p') where
    abbrev after : Display
    after = display r.core p' r.changed

    over : after ≡ acts_over (display c p t.changed) (b ∷ bs)
    over = R.display-is ∙ ap (acts_over (display c p t.changed)) e

    lasted : r.lasting ≡ lasting c (b ∷ bs)
    lasted = R.lasts ∙ ap (lasting c) e

    rest : AllQuiet (decided c b).core bs
    unfolding RestQuiet
    rest = subst (RestQuiet c) e R.quiet

    -- one byte
    page-alone : bs ≡ [] → acts_on_line l action ≡ false
        → page_left after (line_beside l r.lasting) heard first ≡ ran (screen (state_from c l t) (buffers p cells)) (b ∷ bs)
    unfolding ran acts_over lasting acts
    page-alone none off =
        let d = acts (display c p t.changed) b in
        let alone : after ≡ d = over ∙ ap (λ (x : List ℕ). acts_over d x) none in
        let last : r.lasting ≡ (c.modes.autowrap && d.core.modes.autowrap) = lasted ∙ ap (λ (x : List ℕ). lasting c (b ∷ x)) none in
        page-heeded after (line_beside l r.lasting)
        ∙ ap (λ (x : Display). page_left x (line_beside l r.lasting) action (selector c l t p cells b)) alone
        ∙ ap (λ (w : Bool). page_left d (with_due l w) action (selector c l t p cells b))
        (ap (λ (x : Bool). l.wrap && x) last ∙ due-one l.wrap c.modes.autowrap d.core.modes.autowrap due)
        ∙ sym (page-stepped c l t p cells b off)
        ∙ ap (λ (x : List ℕ). ran (stepped (screen (state_from c l t) (buffers p cells)) b) x) (sym none)

    -- as many as there are
    page-run : l.active ≡ false → tells_line action ≡ false
        → page_left after (line_beside l r.lasting) heard first ≡ ran (screen (state_from c l t) (buffers p cells)) (b ∷ bs)
    page-run off h =
        page-untold after (line_beside l r.lasting) h
        ∙ ap₂ (λ (x : Display) (w : Bool). page_left x (line_beside l w) Nothing 0) over lasted
        ∙ sym (run_ran c l b bs off h rest t p cells due)

  -- ---- on the line

  abbrev line_left : Display → Action → ℕ → Screen
  line_left d a n =
      screen (state_from (page_behind c d.core) (line_told a n (line_behind l d.core)) (record { changed = t.changed; flag = not (eqb d.changed 0) || t.flag }))
      (buffers p d.cells)

  line-alone : (r : Run) (cells' xs : List ℕ) → take r.read xs ≡ b ∷ [] → Ran (line_view c l) 0 cells xs r cells' → acts_on_line l action ≡ true
      → line_left (display r.core cells' r.changed) heard first ≡ ran (screen (state_from c l t) (buffers p cells)) (b ∷ [])
  unfolding ran acts_over
  line-alone r cells' xs e R on =
      let d = display r.core cells' r.changed in
      let is : d ≡ acts (display (line_view c l) cells 0) b = R.display-is ∙ ap (acts_over (display (line_view c l) cells 0)) e in
      ap (λ (k : StatusLine). screen (state_from (page_behind c d.core) k (record { changed = t.changed; flag = not (eqb d.changed 0) || t.flag })) (buffers p d.cells))
      (heeded-told c.parser b (line_behind l d.core))
      ∙ ap (λ (x : Display). line_left x action (selector c l t p cells b)) is
      ∙ sym (line-stepped c l t p cells b on)

-- the line as a page of one row
pub view-paged : (k : Displays) (cells : List ℕ) → WholeDisplays k → length cells ≡ 80 → Paged (line_view k.core k.line) cells
unfolding line_view
view-paged k cells w h = record { whole = view-whole k w; size = h }

-- ---- the bytes of a turn

-- those that it reads are the input's from here on
turn-bytes : (input : List ℕ) (i end m : ℕ) → i < length input → 0 < m → m ≤ length (span input i end)
    → take m (span input i end) ≡ get_or input i 0 ∷ span input (i + 1) (i + m)
turn-bytes input i end m l some most =
    let few : m ≤ end - i = omega (arith, length-take (end - i) (drop i input)) in
    let same : i + m - i ≡ m = omega arith in
    let one : span input i (i + 1) ≡ get_or input i 0 ∷ [] = rw (span_more input i i (omega arith) l, span_none input i) in
    let all : span input i (i + m) ≡ get_or input i 0 ∷ span input (i + 1) (i + m) =
    rw one at (span-append input i (i + 1) (i + m) (omega arith) (omega arith)) in
    take-take m (end - i) (drop i input) few ∙ sym (ap (λ (k : ℕ). take k (drop i input)) same) ∙ all

module _ (input : List ℕ) (i : ℕ) (more : i < length input) where
  pub span-some : (end : ℕ) → i < end → 0 < length (span input i end)
  span-some end l = rw (length-take, length-drop) (omega arith)

  -- where a turn may end
  pub end-within : (alone : Bool) (end : ℕ) → end ≡ cond alone (i + 1) (length input) → (i < end) × (end ≤ length input)
  end-within true end e = (omega arith, omega arith)
  end-within false end e = (omega arith, omega arith)

  span-few : (end : ℕ) → length (span input i end) ≤ end - i
  span-few end = rw length-take (omega arith)

  pub turn-within : (end m : ℕ) → m ≤ length (span input i end) → i + m ≤ length input
  turn-within end m h =
      let few = length-take (end - i) (drop i input) in
      let all : length (drop i input) ≡ length input - i = length-drop i input in
      omega arith

  module _ (c : Core) (l : StatusLine) (t : Tracked) (p cells : List ℕ) (b : ℕ) (eb : b ≡ get_or input i 0) (a : Action) (ea : a ≡ heeded c.parser b) where
    abbrev there : State
    there = state_from c l t

    leaves : leaves_line a ≡ leaves_line (decode c.parser b).action
    leaves = ap leaves_line ea ∙ heeded-leaves c.parser b

    tells : tells_line a ≡ tells_line (decode c.parser b).action
    tells = ap tells_line ea ∙ heeded-tells c.parser b

    -- a byte on the line
    pub line-turned : (l.active && not (leaves_line a)) ≡ true → (r : Run) (cells' : List ℕ) → Ran (line_view c l) 0 cells (span input i (i + 1)) r cells'
        → (c' : Core) → c' ≡ page_behind c r.core → (m n : StatusLine) → m ≡ line_behind l r.core → n ≡ line_told a (param c.parser.params 0) m
        → Turned input i 1 there (buffers p cells) b (state_from c' n (record { changed = t.changed; flag = not (eqb r.changed 0) || t.flag })) (buffers p cells')
    unfolding sent
    line-turned on r cells' R c' ec m n em en =
        let some = R.some (span-some (i + 1) (omega arith)) in
        let one : r.read ≡ 1 = omega (arith, R.most, span-few (i + 1)) in
        let e : take r.read (span input i (i + 1)) ≡ b ∷ [] =
        turn-bytes input i (i + 1) r.read more some R.most
        ∙ ap₂ (λ (x : ℕ) (xs : List ℕ). x ∷ xs) (sym eb) (ap (λ (k : ℕ). span input (i + 1) (i + k)) one ∙ span_none input (i + 1)) in
        let tracked : Tracked = record { changed = t.changed; flag = not (eqb r.changed 0) || t.flag } in
        record {
          some = omega arith;
          within = omega arith;
          screen-is =
              ap₂ (λ (x : Core) (y : StatusLine). screen (state_from x y tracked) (buffers p cells')) ec
              (en ∙ ap₂ (λ (y : Action) (z : StatusLine). line_told y (param c.parser.params 0) z) ea em)
              ∙ line-alone c l t p cells b r cells' (span input i (i + 1)) e R (sym (ap (λ (x : Bool). l.active && not x) leaves) ∙ on)
              ∙ ap (λ (xs : List ℕ). ran (screen there (buffers p cells)) (b ∷ xs)) (sym (span_none input (i + 1)));
          silent = rw (span_none input (i + 1));
        }

    -- as many bytes as go on the page at once, or one
    pub page-turned : (l.active && not (leaves_line a)) ≡ false → (l.wrap && c.modes.autowrap) ≡ l.wrap → (end : ℕ) → end ≡ cond (tells_line a) (i + 1) (length input)
        → (r : Run) (p' : List ℕ) → Ran c t.changed p (span input i end) r p' → (m n : StatusLine) → m ≡ line_beside l r.lasting
        → n ≡ line_told a (param c.parser.params 0) m → (cells' : List ℕ) → cells' ≡ (edited_by 1 (line_edits a) cells).page
        → (blanked : Bool) → blanked ≡ not (eqb (edited_by 1 (line_edits a) cells).changed 0)
        → Turned input i r.read there (buffers p cells) b (state_from r.core n (record { changed = r.changed; flag = blanked || t.flag })) (buffers p' cells')
    unfolding sent
    page-turned off due end ee r p' R m n em en cells' ec blanked ek = go (tells_line a) refl
      where
        bytes : i < end → take r.read (span input i end) ≡ b ∷ span input (i + 1) (i + r.read)
        bytes h = turn-bytes input i end r.read more (R.some (span-some end h)) R.most ∙ ap (λ (x : ℕ). x ∷ span input (i + 1) (i + r.read)) (sym eb)

        same : screen (state_from r.core n (record { changed = r.changed; flag = blanked || t.flag })) (buffers p' cells')
            ≡ page_left c l t p cells b (display r.core p' r.changed) (line_beside l r.lasting) (heeded c.parser b) (param c.parser.params 0)
        same =
            ap₂ (λ (y : StatusLine) (z : List ℕ). screen (state_from r.core y (record { changed = r.changed; flag = blanked || t.flag })) (buffers p' z))
            (en ∙ ap₂ (λ (y : Action) (z : StatusLine). line_told y (param c.parser.params 0) z) ea em)
            (ec ∙ ap (λ (y : Action). (edited_by 1 (line_edits y) cells).page) ea)
            ∙ ap (λ (x : Bool). screen (state_from r.core (line_told (heeded c.parser b) (param c.parser.params 0) (line_beside l r.lasting))
            (record { changed = r.changed; flag = x || t.flag })) (buffers p' (edited_by 1 (line_edits (heeded c.parser b)) cells).page))
            (ek ∙ ap (λ (y : Action). not (eqb (edited_by 1 (line_edits y) cells).changed 0)) ea)

        go : (x : Bool) → tells_line a ≡ x
            → Turned input i r.read there (buffers p cells) b (state_from r.core n (record { changed = r.changed; flag = blanked || t.flag })) (buffers p' cells')
        go true et =
            let one : end ≡ i + 1 = ee ∙ ap (λ (x : Bool). cond x (i + 1) (length input)) et in
            let some = R.some (span-some end (omega arith)) in
            let read : r.read ≡ 1 = omega (arith, R.most, span-few end) in
            let none : span input (i + 1) (i + r.read) ≡ [] = ap (λ (k : ℕ). span input (i + 1) (i + k)) read ∙ span_none input (i + 1) in
            record {
              some = some;
              within = turn-within end r.read R.most;
              screen-is = same ∙ page-alone c l t p cells b due r p' (span input i end) _ (bytes (omega arith)) R none (sym (ap (λ (x : Bool). l.active && not x) leaves) ∙ off);
              silent = rw none;
            }
        go false et =
            let all : end ≡ length input = ee ∙ ap (λ (x : Bool). cond x (i + 1) (length input)) et in
            let stays : leaves_line a ≡ false = untold-leaves a et in
            let idle : l.active ≡ false = left_false l.active (sym (ap (λ (x : Bool). l.active && not x) stays) ∙ off) in
            let untelling : tells_line (decode c.parser b).action ≡ false = sym tells ∙ et in
            let e = bytes (omega arith) in
            record {
              some = R.some (span-some end (omega arith));
              within = turn-within end r.read R.most;
              screen-is = same ∙ page-run c l t p cells b due r p' (span input i end) _ e R idle untelling;
              silent = run-silent c l b _ idle untelling (rest c l t p cells b due r p' (span input i end) _ e R);
            }
