-- Printing keeps a core whole, and its edits stay on the page.
use Rattle.std.proofs.Common.{ℕ, ◌-◌, ◌%◌, Bool, ◌&&◌, eqb, ltb, refl, arith}
use Rattle.cells.specs.declared.CharSet.TheVariants.{Ascii}
use Rattle.page.specs.declared.Edit.{Edit}
use Rattle.page.specs.Edits.{Within, RowsFit}
use Rattle.device.specs.declared.charsets.SingleShift.TheVariants.{NoShift}
use Rattle.device.specs.declared.cursor.Cursor.{Cursor}
use Rattle.core_state.specs.declared.Core.{Core}
use Rattle.vt.specs.declared.printing.Printed.{Printed}
use Rattle.device.specs.Cursor.{advance}
use Rattle.core_state.specs.Glyphs.{used_set, skipped, shown_set, cell_word}
use Rattle.vt.specs.Printing.{index_edit, put_edit, line_start, next_line, print_here, print_below, printed_in, put, printed, substituted}
use Rattle.core_state.specs.Geometry.{left_stop, right_stop, stops_of}
use Rattle.core_state.specs.Effects.{with_shift}
use Rattle.ground.proofs.TestLaws.{either}
use Rattle.core_state.specs.Whole.{Parts, WrapOf}
use Rattle.wholeness.proofs.Decisions.{Good, good-unedited}
use Rattle.wholeness.proofs.SoundMoves.{Fine, own, with-cursor, fine-start, fine-index, fine-advance, advance-wrap}

-- the rows between the margins, which scroll by one
pub margins-fit : (c : Core) → Parts c → RowsFit c.rows (c.margins.top - 1) c.margins.bottom (left_stop c - 1) (right_stop c) 1
margins-fit c p = omega arith

pub index-within : (c : Core) (u : Cursor) → Parts c → Within c.rows (index_edit c.margins (stops_of c) u)
index-within c u p = either (Within c.rows) (eqb u.row c.margins.bottom && ltb c.margins.top c.margins.bottom) (λ e. margins-fit c p) (λ e. tt)

put-within : (c : Core) (u : Cursor) (w : ℕ) → Fine c u → Within c.rows (put_edit c.modes.insert (stops_of c) u w)
put-within c u w f =
    either (Within c.rows) c.modes.insert (λ e. omega arith) (λ e. (omega arith, omega arith))

module _ (c : Core) (w : ℕ) (t : Bool) (p : Parts c) where
  abbrev GoodPrinted : Printed → Type 0
  GoodPrinted x = Good c.rows t (printed_in c x)

  -- the cursor goes on from u, where the word was put
  good-advanced : (u : Cursor) (first second : Edit) → Fine c u → Within c.rows first → Within c.rows second
      → GoodPrinted (record { cursor = advance u (right_stop c) c.modes.autowrap; first = first; second = second })
  good-advanced u first second f i j = record {
    rows = refl;
    parts = with-cursor c (advance u (right_stop c) c.modes.autowrap) p (fine-advance c u p f c.modes.autowrap);
    wrap = λ e. advance-wrap c u p f c.modes.autowrap;
    first = i;
    second = j;
  }

  good-below : GoodPrinted (print_below c.cursor c.margins c.rows c.modes (stops_of c) w)
  good-below =
      let start-at : Cursor = line_start (stops_of c) c.cursor in
      let next-at : Cursor = next_line c.margins c.rows (stops_of c) c.cursor in
      let next : Fine c next-at = fine-index c start-at p (fine-start c c.cursor p (own c p)) in
      good-advanced next-at _ _ next (index-within c start-at p) (put-within c next-at w next)

  good-here : GoodPrinted (print_here c.modes (stops_of c) c.cursor w)
  good-here = good-advanced c.cursor _ _ (own c p) (put-within c c.cursor w (own c p)) tt

  pub good-put : Good c.rows t (put c w)
  unfolding put
  good-put = either GoodPrinted c.cursor.wrap (λ e. good-below) (λ e. good-here)

pub good-printed : (c : Core) (b : ℕ) (t : Bool) → Parts c → WrapOf c → Good c.rows t (printed c b)
unfolding printed
good-printed c b t p h =
    either (Good c.rows t) (skipped (used_set c b) b)
    (λ e. good-unedited c t p (λ f. h))
    (λ e. good-put (with_shift c NoShift) (cell_word c (b % 128) (shown_set (used_set c b) b)) t p)

pub good-substituted : (c : Core) (t : Bool) → Parts c → Good c.rows t (substituted c)
unfolding substituted
good-substituted c t p = good-put c (cell_word c 0x1A Ascii) t p
