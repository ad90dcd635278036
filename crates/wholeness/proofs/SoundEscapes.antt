-- Escape sequences keep a core whole, and their edits stay on the page.
use Rattle.std.proofs.Common.{ℕ, min, max, Bool, true, false, cond, refl, arith}
use mathlib.Core.Bool.{false≢true}
use Rattle.core_state.specs.declared.Core.{Core}
use Rattle.core_state.specs.Whole.{Parts, WrapOf}
use Rattle.vt.specs.Escapes.{save_cursor, restore_cursor, align_screen, reset, escaped}
use Rattle.ground.proofs.TestLaws.{and_left, and_right}
use Rattle.wholeness.proofs.Decisions.{Good, good-kept, good-unedited, good-either}
use Rattle.wholeness.proofs.SoundMoves.{Placed, placed-parts}
use Rattle.wholeness.proofs.Wholeness.{no_wrap, full, fresh-rows, fresh-whole}

module _ (c : Core) (t : Bool) (p : Parts c) where
  good-reset : Good c.rows t (reset c)
  good-reset =
      let w = fresh-whole c.rows p.bounds.count in
      record { rows = fresh-rows c.rows; parts = w.parts; wrap = λ e. w.wrap; first = omega arith; second = tt }

  good-align : Good c.rows t (align_screen c)
  good-align =
      good-kept (align_screen c).core _ refl (placed-parts p (full c.rows p.bounds.count) (omega arith))
      (λ e. no_wrap 1 c.modes.autowrap) (omega arith)

  -- the row is held to the page, or to the margins
  restored : (o : Bool) → let row = max (cond o c.margins.top 1) (min (cond o c.margins.bottom c.rows) c.saved.cursor.row) in
      Placed c.rows c.margins o row c.saved.cursor.column
  restored true = omega arith
  restored false = omega (arith, false≢true)

  good-restore : Good c.rows t (restore_cursor c)
  good-restore =
      good-unedited (restore_cursor c).core t (placed-parts p p.bounds.margins (restored c.saved.origin))
      (λ e. record {
        column = λ h. p.saved.wrap (and_left c.saved.cursor.wrap c.modes.autowrap h);
        mode = λ h. and_right c.saved.cursor.wrap c.modes.autowrap h;
      })

  module _ (h : WrapOf c) where
    good-save : Good c.rows t (save_cursor c)
    good-save =
        good-unedited (save_cursor c).core t
        (record { bounds = p.bounds; origin = p.origin; saved = record { place = p.bounds.cursor; wrap = h.column }; parser = p.parser })
        (λ e. h)

    pub good-escaped : (first second last : ℕ) → Good c.rows t (escaped c first second last)
    unfolding escaped
    good-escaped first second last = search (good-either, good-save, good-restore, good-reset, good-align, good-kept, tt) depth 20 fits 3000
