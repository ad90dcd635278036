-- An action keeps core and status line whole, its edits stay on the page or on the line, and no byte sends more than 11 bytes.
use Rattle.std.proofs.Common.{◌≡◌, ℕ, ◌≤◌, Bool, true, false, cond, not, ◌&&◌, ◌||◌, eqb, leb, length, refl, arith, eqb-true}
use mathlib.Core.Bool.{false≢true}
use Rattle.page.specs.Edits.{Within}
use Rattle.parser.specs.declared.parser.Action.{Action}
use Rattle.parser.specs.declared.parser.Action.TheVariants.{Nothing, Character, Substitute, Control, C1Control, EscapeSequence, ControlSequence}
use Rattle.parser.specs.Params.{param}
use Rattle.parser.specs.Parser.{decode}
use Rattle.parser.specs.Families.{is_soft_reset, is_dollar}
use Rattle.core_state.specs.declared.Core.{Core}
use Rattle.core_state.specs.declared.StatusLine.{StatusLine}
use Rattle.core_state.specs.declared.Displays.{Displays}
use Rattle.core_state.specs.Effects.{with_parser}
use Rattle.core_state.specs.StatusLine.{line_view, page_behind, line_behind, line_beside, fresh_line}
use Rattle.core_state.specs.Whole.{Whole, WholeLine, WholeDisplays}
use Rattle.dispatch.specs.Decide.{executed}
use Rattle.dispatch.specs.Displays.{type_selected, display_selected, line_renewed, resets_all, is_full_reset, line_told}
use Rattle.dispatch.specs.Displays.{Carried, acts_on_line, on_line, on_page, carried, carried_out, active, sends_of}
use Rattle.ground.proofs.TestLaws.{and_left, and_right, or_cases, either}
use Rattle.wholeness.proofs.Decisions.{Sound}
use Rattle.wholeness.proofs.Wholeness.{no_wrap, origin-off}
use Rattle.wholeness.proofs.ReplyLength.{sends-short}
use Rattle.wholeness.proofs.Sound.{executed-sound, read_whole}

-- ---- the line as a page of one row

-- it is whole
pub view-whole : (k : Displays) → WholeDisplays k → Whole (line_view k.core k.line)
unfolding line_view
view-whole k w =
    let m = w.line in
    record {
      parts = record {
        bounds = record { count = omega arith; cursor = omega (arith, m.low, m.high); margins = omega arith };
        origin = origin-off (record { top = 1; bottom = 1 }) 1;
        saved = record { place = omega (arith, m.saved_low, m.saved-high); wrap = m.saved-wrap };
        parser = w.core.parts.parser;
      };
      wrap = m.wrap;
    }

pub active-whole : (k : Displays) → WholeDisplays k → Whole (active k)
active-whole k w = either Whole k.line.active (λ _. view-whole k w) (λ _. w.core)

pub sends-few : (k : Displays) → WholeDisplays k → (b : ℕ) → length (sends_of k b) ≤ 11
unfolding sends_of
sends-few k w b = sends-short (active k) (active-whole k w) b

-- ---- the line after an action

pub fresh-line : (autowrap : Bool) → WholeLine fresh_line autowrap
fresh-line autowrap = record {
  low = omega arith;
  high = omega arith;
  wrap = no_wrap 1 autowrap;
  saved_low = omega arith;
  saved-high = omega arith;
  saved-wrap = λ h. absurd (false≢true h);
  typed = λ h. absurd (false≢true h);
}

-- what is told leaves its place
module _ (l : StatusLine) (on : Bool) (m : WholeLine l on) where
  switched : (present active : Bool) → (active ≡ true → present ≡ true)
      → WholeLine (record { present = present; active = active; column = l.column; wrap = l.wrap; saved = l.saved }) on
  switched present active h = record {
    low = m.low;
    high = m.high;
    wrap = m.wrap;
    saved_low = m.saved_low;
    saved-high = m.saved-high;
    saved-wrap = m.saved-wrap;
    typed = h;
  }

  told-either : (t : Bool) {x y : StatusLine} → (t ≡ true → WholeLine x on) → (t ≡ false → WholeLine y on) → WholeLine (cond t x y) on
  told-either t f g = either (λ (x : StatusLine). WholeLine x on) t f g

  type-whole : (n : ℕ) → WholeLine (type_selected n l) on
  type-whole n =
      told-either (leb n 2)
      (λ _. switched (not (eqb n 0)) (not (eqb n 0) && l.active) (λ h. and_left (not (eqb n 0)) l.active h))
      (λ _. m)

  display-whole : (n : ℕ) → WholeLine (display_selected n l) on
  display-whole n =
      told-either (eqb n 0 || (eqb n 1 && l.present))
      (λ h. switched l.present (eqb n 1) (λ i. or_cases (eqb n 0) (eqb n 1 && l.present) h
      (λ z. absurd (omega (arith, eqb-true n 0 z, eqb-true n 1 i))) (λ x. and_right (eqb n 1) l.present x)))
      (λ _. m)

  renewed-whole : WholeLine (line_renewed l) on
  renewed-whole =
      let f = fresh-line on in
      record {
        low = m.low;
        high = m.high;
        wrap = m.wrap;
        saved_low = f.saved_low;
        saved-high = f.saved-high;
        saved-wrap = f.saved-wrap;
        typed = λ h. absurd (false≢true h);
      }

  told-whole : (a : Action) (n : ℕ) → WholeLine (line_told a n l) on
  told-whole Nothing n = m
  told-whole (Character b) n = m
  told-whole Substitute n = m
  told-whole (Control b) n = m
  told-whole (C1Control b) n = m
  told-whole (EscapeSequence first second last) n = told-either (is_full_reset first last) (λ _. fresh-line on) (λ _. m)
  told-whole (ControlSequence f) n =
      told-either (is_soft_reset f.mark f.first f.second f.last) (λ _. renewed-whole)
      (λ _. told-either (is_dollar f.mark f.first f.second)
      (λ _. told-either (eqb f.last 0x7E) (λ _. type-whole n) (λ _. told-either (eqb f.last 0x7D) (λ _. display-whole n) (λ _. m)))
      (λ _. m))

-- beside an action on the page: its wrap due lasts while autowrap is on
beside-whole : (l : StatusLine) (before on : Bool) → WholeLine l before → WholeLine (line_beside l on) on
beside-whole l before on m = record {
  low = m.low;
  high = m.high;
  wrap = record { column = λ h. m.wrap.column (and_left l.wrap on h); mode = λ h. and_right l.wrap on h };
  saved_low = m.saved_low;
  saved-high = m.saved-high;
  saved-wrap = m.saved-wrap;
  typed = m.typed;
}

-- ---- an action

-- one on the line stays on it
pub line-within : (k : Displays) (a : Action) → WholeDisplays k → (Within 1 (on_line k.core k.line a).line.first) × (Within 1 (on_line k.core k.line a).line.second)
unfolding line_view
line-within k a w =
    let d = executed (line_view k.core k.line) a in
    let s : Sound 1 d = executed-sound (line_view k.core k.line) a (view-whole k w) in
    (s.first, s.second)

-- core and line are whole, with as many rows; the edits of the page stay on it, those of the line on the line
pub record SoundCarried (r : ℕ) (x : Carried) : Type 0 where
  pub rows : x.displays.core.rows ≡ r
  pub whole : WholeDisplays x.displays
  pub page-first : Within r x.page.first
  pub page-second : Within r x.page.second
  pub line_first : Within 1 x.line.first
  pub line_second : Within 1 x.line.second

module _ (c : Core) (l : StatusLine) (a : Action) (w : WholeDisplays (record { core = c; line = l })) where
  line-sound : Sound 1 (executed (line_view c l) a) → SoundCarried c.rows (on_line c l a)
  unfolding page_behind
  line-sound s =
      let edits = line-within (record { core = c; line = l }) a w in
      let d = executed (line_view c l) a in
      let p = s.whole.parts in
      let on = d.core.modes.autowrap in
      record {
        rows = refl;
        whole = record {
          core = record {
            parts = record { bounds = w.core.parts.bounds; origin = w.core.parts.origin; saved = w.core.parts.saved; parser = p.parser };
            wrap = record { column = λ h. w.core.wrap.column (and_left c.cursor.wrap on h); mode = λ h. and_right c.cursor.wrap on h };
          };
          line = told-whole (line_behind l d.core) on
              (record {
                low = p.bounds.cursor.column-low;
                high = p.bounds.cursor.column-high;
                wrap = s.whole.wrap;
                saved_low = p.saved.place.column-low;
                saved-high = p.saved.place.column-high;
                saved-wrap = p.saved.wrap;
                typed = w.line.typed;
              })
              a (param c.parser.params 0);
        };
        page-first = tt;
        page-second = tt;
        line_first = edits.0;
        line_second = edits.1;
      }

  page-sound : Sound c.rows (executed c a) → SoundCarried c.rows (on_page c l a)
  page-sound s =
      let on = (executed c a).core.modes.autowrap in
      record {
        rows = s.rows;
        whole = record {
          core = s.whole;
          line = told-whole (line_beside l on) on (beside-whole l c.modes.autowrap on w.line) a (param c.parser.params 0);
        };
        page-first = s.first;
        page-second = s.second;
        line_first = either (Within 1) (resets_all a) (λ _. omega arith) (λ _. tt);
        line_second = tt;
      }

  pub carried-sound : SoundCarried c.rows (carried c l a)
  unfolding carried line_view
  carried-sound =
      either (SoundCarried c.rows) (acts_on_line l a)
      (λ _. line-sound (executed-sound (line_view c l) a (view-whole (record { core = c; line = l }) w)))
      (λ _. page-sound (executed-sound c a w.core))

-- ---- a byte

pub carried-out-sound : (k : Displays) (b : ℕ) → WholeDisplays k → SoundCarried k.core.rows (carried_out k b)
unfolding carried_out
carried-out-sound k b w =
    carried-sound (with_parser k.core (decode k.core.parser b).parser) k.line (decode k.core.parser b).action
    (record { core = read_whole k.core b w.core; line = w.line })
