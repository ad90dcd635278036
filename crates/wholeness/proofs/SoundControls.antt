-- The controls keep a core whole, and their edits stay on the page.
use Rattle.std.proofs.Common.{◌≡◌, ℕ, Bool, false, ◌&&◌, eqb, ltb, refl}
use Rattle.page.specs.declared.Edit.{Edit}
use Rattle.page.specs.Edits.{Within}
use Rattle.device.specs.declared.cursor.Cursor.{Cursor}
use Rattle.core_state.specs.declared.Core.{Core}
use Rattle.device.specs.Cursor.{to_column, index, reverse_index}
use Rattle.core_state.specs.Geometry.{left_stop}
use Rattle.vt.specs.Controls.{index_from, indexed, next_lined, reverse_indexed, controlled, c1_controlled}
use Rattle.core_state.specs.Effects.{with_cursor, one_edit}
use Rattle.ground.proofs.TestLaws.{either}
use Rattle.core_state.specs.Whole.{Parts, WrapOf}
use Rattle.wholeness.proofs.Decisions.{Good, good-kept, good-either}
use Rattle.wholeness.proofs.Wholeness.{no_wrap}
use Rattle.wholeness.proofs.SoundMoves.{Fine, own, with-cursor, fine-returned, fine-left, fine-index, fine-reverse-index, fine-tab}
use Rattle.wholeness.proofs.SoundPrinting.{margins-fit, index-within}

module _ (c : Core) (t : Bool) (p : Parts c) where
  -- the cursor moves, and wrap due ends
  pub good-moved : (u : Cursor) (e : Edit) → u.wrap ≡ false → Fine c u → Within c.rows e → Good c.rows t (one_edit (with_cursor c u) e)
  good-moved u e n f i = good-kept (with_cursor c u) e refl (with-cursor c u p f) (λ s. rw n (no_wrap u.column c.modes.autowrap)) i

  good-index-from : (u : Cursor) → Fine c u → Good c.rows t (index_from c u)
  good-index-from u f = good-moved (index u c.margins.bottom c.rows) _ refl (fine-index c u p f) (index-within c u p)

  good-indexed : Good c.rows t (indexed c)
  good-indexed = good-index-from c.cursor (own c p)

  good-next-lined : Good c.rows t (next_lined c)
  good-next-lined = good-index-from (to_column c.cursor (left_stop c)) (fine-returned c p)

  good-reverse-indexed : Good c.rows t (reverse_indexed c)
  good-reverse-indexed =
      good-moved (reverse_index c.cursor c.margins.top) _ refl (fine-reverse-index c p)
      (either (Within c.rows) (eqb c.cursor.row c.margins.top && ltb c.margins.top c.margins.bottom) (λ e. margins-fit c p) (λ e. tt))

  -- tabs, sets and a shift are no part of wholeness
  module _ (h : WrapOf c) where
    pub good-controlled : (b : ℕ) → Good c.rows t (controlled c b)
    unfolding controlled
    good-controlled b = search (good-either, good-next-lined, good-indexed, good-moved, fine-left, fine-tab, fine-returned, good-kept, tt) depth 14

    pub good-c1 : (b : ℕ) → Good c.rows t (c1_controlled c b)
    unfolding c1_controlled
    good-c1 b = search (good-either, good-next-lined, good-indexed, good-reverse-indexed, good-kept, tt) depth 12
