-- One byte of the code is one byte of the definition: its edits, and what it leaves of both displays.
use Rattle.std.proofs.Common.{◌≡◌, ℕ, ◌*◌, ◌^◌, ◌<◌, Bool, true, false, cond, not, ◌&&◌, ◌||◌, eqb, List, length, sym, refl, ap, ◌∙◌, ap₂, pow_pos}
use lib.Bits.{bit_or, or_zero_l, or_zero_r}
use Rattle.page.specs.declared.Edit.{Edit}
use Rattle.cells.specs.Sets.{bits_of, changed}
use Rattle.page.specs.Edits.{applied, Within}
use Rattle.cells.proofs.BitLaws.{bits-lt, or-added}
use Rattle.page.proofs.EditLaws.{length-applied}
use Rattle.parser.specs.declared.parser.Decoded.{Decoded}
use Rattle.parser.specs.Params.{param}
use Rattle.parser.specs.Parser.{decode}
use Rattle.core_state.specs.declared.Core.{Core}
use Rattle.core_state.specs.declared.StatusLine.{StatusLine}
use Rattle.core_state.specs.declared.Displays.{Displays}
use Rattle.core_state.specs.Effects.{with_parser}
use Rattle.core_state.specs.StatusLine.{line_view, page_behind, line_behind, line_beside}
use Rattle.core_state.specs.Whole.{WrapHeld}
use Rattle.dispatch.specs.Decide.{decided}
use Rattle.dispatch.specs.Displays.{Edits, line_told, line_edits, Carried, acts_on_line, on_line, on_page, carried, carried_out}
use Rattle.steps.specs.declared.State.{State}
use Rattle.steps.specs.declared.Tracked.{Tracked}
use Rattle.steps.specs.Steps.{buffers, Screen, screen, Marked, edited, edited_by, acted, stepped}
use Rattle.steps.specs.OneDisplay.{display, edits_of, acts}
use Rattle.steps.specs.Ready.{Paged, Ready, state_from}
use Rattle.steps.proofs.StepLaws.{edited-page, edited-changed}

pub ready-paged : (s : State) (p : List ℕ) → Ready s p → Paged s.displays.core p
ready-paged s p k = record { whole = k.whole.displays.core; size = k.size }

-- ---- edits

-- an edit that was applied, with its bits joined to those that were there
edited-is : (r : ℕ) (e : Edit) (m : Marked) (q : List ℕ) (k : ℕ) → length m.page ≡ 80 * r → m.changed < 2 ^ r → Within r e
    → q ≡ applied r e m.page → k ≡ bits_of r (changed m.page q) → record { page = q; changed = bit_or m.changed k } ≡ edited r e m
edited-is r e m q k h l w eq ek =
    ap₂ (λ (a : List ℕ) (b : ℕ). record { page = a; changed = b })
    (eq ∙ sym (edited-page r e m h))
    (ap (bit_or m.changed) (ek ∙ ap (λ (x : List ℕ). bits_of r (changed m.page x)) eq)
    ∙ or-added r m.changed (changed m.page (applied r e m.page)) l ∙ sym (edited-changed r e m h l w))

-- the first edit of a byte
pub first-is : (r : ℕ) (e : Edit) (p q : List ℕ) (k : ℕ) → length p ≡ 80 * r → Within r e → q ≡ applied r e p → k ≡ bits_of r (changed p q)
    → record { page = q; changed = k } ≡ edited r e (record { page = p; changed = 0 })
first-is r e p q k h w eq ek =
    ap (λ (n : ℕ). record { page = q; changed = n }) (sym (or_zero_l k)) ∙ edited-is r e (record { page = p; changed = 0 }) q k h (pow_pos r) w eq ek

-- both edits of a byte, applied one after the other
pub edits-are : (r : ℕ) (x : Edits) (p q1 q2 : List ℕ) (m1 m2 : ℕ) → length p ≡ 80 * r → Within r x.first → Within r x.second
    → q1 ≡ applied r x.first p → m1 ≡ bits_of r (changed p q1)
    → q2 ≡ applied r x.second q1 → m2 ≡ bits_of r (changed q1 q2)
    → record { page = q2; changed = bit_or m1 m2 } ≡ edited_by r x p
edits-are r x p q1 q2 m1 m2 h w1 w2 e1 f1 e2 f2 =
    let l1 : length q1 ≡ 80 * r = ap length e1 ∙ length-applied r x.first p h w1 in
    let b1 : m1 < 2 ^ r = rw f1 (bits-lt r (changed p q1)) in
    edited-is r x.second (record { page = q1; changed = m1 }) q2 m2 l1 b1 w2 e2 f2 ∙ ap (edited r x.second) (first-is r x.first p q1 m1 h w1 e1 f1)

-- ---- on one display

-- the core and the edits of a byte, with its changed rows joined to those that were there
pub acts-is : (c : Core) (n : ℕ) (p : List ℕ) (b : ℕ) (c' : Core) (q : List ℕ) (m : ℕ) → c' ≡ (decided c b).core
    → record { page = q; changed = m } ≡ edited_by c.rows (edits_of (decided c b)) p → (n' : ℕ) → n' ≡ bit_or n m → display c' q n' ≡ acts (display c p n) b
unfolding acts
acts-is c n p b c' q m ec em n' en =
    ap (display c' q) en ∙ ap₂ (λ (x : Core) (y : Marked). display x y.page (bit_or n y.changed)) ec em

-- ---- on both

-- a wrap due that is held lasts
pub wrap-lasts : (wrap : Bool) (column : ℕ) (on : Bool) → WrapHeld wrap column on → (wrap && on) ≡ wrap
wrap-lasts true column on h = h.mode refl
wrap-lasts false column on h = refl

module _ (c : Core) (l : StatusLine) (t : Tracked) (p cells : List ℕ) (b : ℕ) where
  abbrev read : Decoded
  read = decode c.parser b

  abbrev pub selector : ℕ
  selector = param read.parser.params 0

  abbrev at : Core
  at = with_parser c read.parser

  -- what is left of an action that is carried out
  abbrev left : Carried → Screen
  left y =
      let m = edited_by c.rows y.page p in
      let n = edited_by 1 y.line cells in
      record {
        displays = y.displays;
        buffers = buffers m.page n.page;
        tracked = record { changed = bit_or t.changed m.changed; flag = not (eqb n.changed 0) || t.flag };
      }

  -- on the page
  abbrev pub page_after : Screen
  page_after =
      let d = acts (display c p t.changed) b in
      let m = edited_by 1 (line_edits read.action) cells in
      record {
        displays = record { core = d.core; line = line_told read.action selector (line_beside l d.core.modes.autowrap) };
        buffers = buffers d.cells m.page;
        tracked = record { changed = d.changed; flag = not (eqb m.changed 0) || t.flag };
      }

  pub page-stepped : acts_on_line l read.action ≡ false → stepped (screen (state_from c l t) (buffers p cells)) b ≡ page_after
  unfolding stepped acted carried_out carried acts decided
  page-stepped off = ap (λ (x : Bool). left (cond x (on_line at l read.action) (on_page at l read.action))) off

  -- on the line
  abbrev pub line_after : Screen
  line_after =
      let d = acts (display (line_view c l) cells 0) b in
      record {
        displays = record { core = page_behind c d.core; line = line_told read.action selector (line_behind l d.core) };
        buffers = buffers p d.cells;
        tracked = record { changed = t.changed; flag = not (eqb d.changed 0) || t.flag };
      }

  abbrev line_left : Displays → Edits → ℕ → ℕ → Screen
  line_left k e rows changed =
      record {
        displays = k;
        buffers = buffers p (edited_by 1 e cells).page;
        tracked = record { changed = rows; flag = not (eqb changed 0) || t.flag };
      }

  left-line : (k : Displays) (e : Edits)
      → let n = (edited_by 1 e cells).changed in line_left k e (bit_or t.changed 0) n ≡ line_left k e t.changed (bit_or 0 n)
  left-line k e = ap₂ (line_left k e) (or_zero_r t.changed) (sym (or_zero_l (edited_by 1 e cells).changed))

  pub line-stepped : acts_on_line l read.action ≡ true → stepped (screen (state_from c l t) (buffers p cells)) b ≡ line_after
  unfolding stepped acted carried_out carried acts decided line_view page_behind
  line-stepped on =
      ap (λ (x : Bool). left (cond x (on_line at l read.action) (on_page at l read.action))) on
      ∙ left-line (on_line at l read.action).displays (on_line at l read.action).line
