-- Text in the bottom margin's row, autowrap and insert mode off, where all rows that scroll are known to have changed: CR, LF and characters,
-- one step each.
use Rattle.std.proofs.Common.{◌≡◌, ℕ, ◌+◌, ◌-◌, ◌<◌, ◌≤◌, min, Bool, true, false, cond, List, sym, refl, ap, ◌∙◌, subst, ap₂, ⊎_elim, arith, le-ltb, lt-ltb, eq-eqb}
use lib.Bits.{bit_or, or_zero_r}
use Rattle.ground.proofs.ListLaws.{split-lt}
use Rattle.cells.specs.Runs.{is_character}
use Rattle.cells.specs.Sets.{bits_of, changed}
use Rattle.cells.proofs.ChangeLaws.{changed-none}
use Rattle.page.specs.declared.Edit.{Edit}
use Rattle.page.specs.declared.Edit.TheVariants.{Keep, Put, ScrollUp}
use Rattle.page.specs.Edits.{applied}
use Rattle.page.proofs.EditLaws.{keep-applied}
use Rattle.parser.specs.declared.phases.Phase.TheVariants.{Ground}
use Rattle.parser.specs.declared.parser.Action.TheVariants.{Control}
use Rattle.device.specs.declared.cursor.Cursor.{Cursor}
use Rattle.device.specs.Cursor.{place, to_column, tab, index, advance}
use Rattle.core_state.specs.declared.Core.{Core}
use Rattle.core_state.specs.Effects.{with_cursor, one_edit}
use Rattle.core_state.specs.Geometry.{stops_of, right_stop}
use Rattle.core_state.specs.Glyphs.{glyph}
use Rattle.vt.specs.Controls.{next_lined, indexed, controlled}
use Rattle.vt.specs.Printing.{index_edit, put_edit}
use Rattle.dispatch.specs.WrapDue.{clears_wrap}
use Rattle.dispatch.specs.Decide.{executed}
use Rattle.dispatch.specs.Touches.{is_direct, control_action, narrowed}
use Rattle.dispatch.proofs.TouchLaws.{direct-decode, direct-quiet, line-touch}
use Rattle.steps.specs.Ready.{Paged}
use Rattle.spans.specs.Spans.{ByteDone}
use Rattle.spans.specs.Characters.{is_unshifted, prints_directly}
use Rattle.spans.proofs.ByteLaws.{done-by}
use Rattle.spans.proofs.ActionLaws.{action-done}
use Rattle.spans.proofs.CharacterLaws.{put-quiet, put-decides}

-- a control, in ground, that only moves the cursor
moved-done : (c : Core) (n : ℕ) (p : List ℕ) (b : ℕ) (u : Cursor) → Paged c p → c.parser.phase ≡ Ground → is_direct b ≡ true
    → one_edit (with_cursor c u) Keep ≡ executed c (control_action b) → ByteDone c n p b (with_cursor c u) n p
moved-done c n p b u P ground direct e =
    action-done c p b c.parser (control_action b) (with_cursor c u) Keep P
    (direct-decode c.parser b ground direct) e n p n (direct-quiet b direct) refl
    (sym (keep-applied c.rows p P.size)) (sym (ap (bit_or n) (changed-none c.rows p) ∙ or_zero_r n))

-- CR
pub return-done : (c : Core) (n : ℕ) (p : List ℕ) → Paged c p → c.parser.phase ≡ Ground → ByteDone c n p 0x0D (with_cursor c (to_column c.cursor 1)) n p
unfolding executed clears_wrap controlled
return-done c n p P ground = moved-done c n p 0x0D (to_column c.cursor 1) P ground refl refl

-- HT
pub tab-done : (c : Core) (n : ℕ) (p : List ℕ) → Paged c p → c.parser.phase ≡ Ground
    → ByteDone c n p 0x09 (with_cursor c (tab c.cursor c.tabs (right_stop c))) n p
unfolding executed clears_wrap controlled
tab-done c n p P ground = moved-done c n p 0x09 (tab c.cursor c.tabs (right_stop c)) P ground refl refl

-- ---- in the bottom margin's row

-- where lines of text are done at once, but for what is known
pub record Scrolls (c : Core) : Type 0 where
  pub ground : c.parser.phase ≡ Ground
  pub unshifted : is_unshifted c.shift ≡ true
  pub insert : c.modes.insert ≡ false
  pub autowrap : c.modes.autowrap ≡ false
  pub bottom : c.cursor.row ≡ c.margins.bottom
  pub margins : c.margins.top < c.margins.bottom

-- the core with its cursor in another column of the row, no wrap due
abbrev pub in_column : Core → ℕ → Core
in_column c k = with_cursor c (place c.cursor.row k)

module _ (c : Core) (S : Scrolls c) (k : ℕ) (x : List ℕ) (P : Paged (in_column c k) x) where
  -- LF
  abbrev scroll : Edit
  scroll = ScrollUp (c.margins.top - 1) c.margins.bottom 0 80 1

  scroll-is : (u : Cursor) → u.row ≡ c.cursor.row → index_edit c.margins (stops_of c) u ≡ scroll
  scroll-is u e = rw (eq-eqb u.row c.margins.bottom (e ∙ S.bottom), lt-ltb c.margins.top c.margins.bottom S.margins)

  stays : (u : Cursor) → u.row ≡ c.cursor.row → index u c.margins.bottom c.rows ≡ place c.cursor.row u.column
  stays u e = rw (eq-eqb u.row c.margins.bottom (e ∙ S.bottom)) (ap (λ (r : ℕ). place r u.column) e)

  fed : (t : Bool) → let x = narrowed (cond t (next_lined (in_column c k)) (indexed (in_column c k))) in
      one_edit (in_column c (cond t 1 k)) scroll ≡ one_edit (with_cursor c x.cursor) x.edit
  fed true = ap₂ (λ (u : Cursor) (e : Edit). one_edit (with_cursor c u) e) (sym (stays (place c.cursor.row 1) refl)) (sym (scroll-is (place c.cursor.row 1) refl))
  fed false = ap₂ (λ (u : Cursor) (e : Edit). one_edit (with_cursor c u) e) (sym (stays (place c.cursor.row k) refl)) (sym (scroll-is (place c.cursor.row k) refl))

  pub feed-done : (n : ℕ) → bit_or n (bits_of c.rows (changed x (applied c.rows scroll x))) ≡ n
      → ByteDone (in_column c k) n x 0x0A (in_column c (cond c.modes.newline 1 k)) n (applied c.rows scroll x)
  feed-done n known =
      action-done (in_column c k) x 0x0A c.parser (Control 0x0A) (in_column c (cond c.modes.newline 1 k)) scroll P
      (direct-decode c.parser 0x0A S.ground refl) (fed c.modes.newline ∙ line-touch (in_column c k) 0x0A (omega arith) (omega arith)) n _ n refl refl refl (sym known)

  -- a character
  advance-is : k ≤ 80 → advance (place c.cursor.row k) 80 c.modes.autowrap ≡ place c.cursor.row (min (k + 1) 80)
  advance-is h =
      ⊎_elim
      (λ (l : k < 80). rw (lt-ltb k 80 l) (ap (place c.cursor.row) (let e : k + 1 ≡ min (k + 1) 80 = omega arith in e)))
      (λ (l : 80 ≤ k). rw (le-ltb k 80 l, S.autowrap) (ap (place c.cursor.row) (let e : k ≡ min (k + 1) 80 = omega arith in e)))
      (split-lt k 80)

  character-here : (n b : ℕ) → k ≤ 80 → is_character b ≡ true
      → bit_or n (bits_of c.rows (changed x (applied c.rows (Put (c.cursor.row - 1) (k - 1) (glyph c b)) x))) ≡ n
      → ByteDone (in_column c k) n x b (in_column c (min (k + 1) 80)) n (applied c.rows (Put (c.cursor.row - 1) (k - 1) (glyph c b)) x)
  character-here n b h char known =
      let plain : prints_directly (in_column c k) ≡ true = rw (S.ground, S.unshifted) in
      done-by (in_column c k) n x b (in_column c (min (k + 1) 80)) (Put (c.cursor.row - 1) (k - 1) (glyph c b)) _ n P (put-quiet (in_column c k) b plain char)
      (ap₂ (λ (u : Cursor) (t : Bool). one_edit (with_cursor c u) (put_edit t (stops_of c) (place c.cursor.row k) (glyph c b))) (sym (advance-is h)) (sym S.insert)
      ∙ put-decides (in_column c k) b plain char)
      refl refl (sym known)

  pub character-done : (n b : ℕ) → k ≤ 80 → is_character b ≡ true
      → bit_or n (bits_of c.rows (changed x (applied c.rows (Put (c.margins.bottom - 1) (k - 1) (glyph c b)) x))) ≡ n
      → ByteDone (in_column c k) n x b (in_column c (min (k + 1) 80)) n (applied c.rows (Put (c.margins.bottom - 1) (k - 1) (glyph c b)) x)
  character-done n b h char =
      subst
      (λ (r : ℕ). bit_or n (bits_of c.rows (changed x (applied c.rows (Put (r - 1) (k - 1) (glyph c b)) x))) ≡ n
      → ByteDone (in_column c k) n x b (in_column c (min (k + 1) 80)) n (applied c.rows (Put (r - 1) (k - 1) (glyph c b)) x))
      S.bottom (character-here n b h char)
