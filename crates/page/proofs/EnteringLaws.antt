-- A property that the words of a page have, and the words that enter, the words after an edit have too: an edit moves words, brings some in,
-- and changes some by what they hold.
use mathlib.Core.List.{List, map}
use Prim.Native.Nat.{ℕ, ◌-◌}
use lib.ListN.{drop}
use Rattle.page.specs.declared.Edit.{Edit}
use Rattle.page.specs.declared.Edit.TheVariants.{Keep, Put, InsertCells, DeleteCells, ScrollUp, ScrollDown}
use Rattle.page.specs.declared.Edit.TheVariants.{FillRange, ChangeRange, FillRectangle, ChangeRectangle, CopyRectangle}
use Rattle.cells.specs.declared.CellChange.{CellChange}
use Rattle.cells.specs.Cells.{blank, changed_by}
use Rattle.cells.specs.Rows.{rows_of, nth, Every}
use Rattle.page.specs.Edits.{changed_row, range_start, in_range, after, applied, entering}
use Rattle.cells.proofs.EveryLaws.{every_append, every_take, every_drop, every-replicate, every_set, every_map, every-paste, every-cond, every-row}
use Rattle.cells.proofs.EveryLaws.{every-joined}

-- what an edit makes a row of, each part with the property
ruleset every-part = (every_append, every_take, every_drop, every-replicate, every_set, every_map, every-paste, every-cond)

module _ (P : ℕ → Type 0) (empty : P blank) (change : (m : CellChange) (w : ℕ) → P w → P (changed_by m w)) where
  every-changed : (m : CellChange) (x : List ℕ) (a e : ℕ) → Every P x → Every P (changed_row m x a e)
  every-changed m x a e h =
      every-paste P x a (map (changed_by m) (drop a x)) (e - a) h (every_map P (changed_by m) (change m) (drop a x) (every_drop P a x h))

  every-after : (f : ℕ → List ℕ) → ((k : ℕ) → Every P (f k)) → (e : Edit) → P (entering e) → (k : ℕ) → Every P (after e f k)
  every-after f h Keep g k = h k
  every-after f h (Put r c w) g k = search every-part
  every-after f h (InsertCells r c e n w) g k = search every-part depth 7
  every-after f h (DeleteCells r c e n) g k = search every-part depth 7
  every-after f h (ScrollUp t e a z n) g k = search every-part depth 7
  every-after f h (ScrollDown t e a z n) g k = search every-part depth 7
  every-after f h (FillRange a z w) g k = search every-part
  every-after f h (ChangeRange a z m) g k = every-changed m (f k) (range_start a k) (range_start z k) (h k)
  every-after f h (FillRectangle t e a z w) g k = search every-part depth 7
  every-after f h (ChangeRectangle t e a z m) g k =
      every-cond P (in_range t e k) (changed_row m (f k) a z) (f k) (every-changed m (f k) a z (h k)) (h k)
  every-after f h (CopyRectangle t e a z r c) g k = search every-part depth 7

  -- an edit keeps a property that the word entering has, a blank has, and every change of a cell keeps
  pub every-applied : (n : ℕ) (e : Edit) (p : List ℕ) → P (entering e) → Every P p → Every P (applied n e p)
  unfolding applied
  every-applied n e p g h = every-joined P n (after e (nth (rows_of n p))) (every-after (nth (rows_of n p)) (every-row P n p h) e g)
