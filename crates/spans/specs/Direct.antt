-- Which bytes are done at once in ground, and where lines of text are.
use Rattle.std.specs.Prelude.{ℕ, ◌-◌, Bool, cond, not, ◌&&◌, ◌||◌, ◌==◌, nat_lt}
use Rattle.cells.specs.Runs.{is_character}
use Rattle.scrolling.specs.Lines.{all_known}
use Rattle.parser.specs.Phases.{is_ground}
use Rattle.core_state.specs.declared.Core.{Core}
use Rattle.core_state.specs.Glyphs.{is_edge, used_set, skipped}
use Rattle.dispatch.specs.Touches.{is_direct}
use Rattle.spans.specs.Characters.{is_unshifted}

-- a character with no shift pending and no wrap due, one that its set ignores, or a control that moves the cursor alone or does nothing
abbrev pub acts_directly : Core → ℕ → Bool
acts_directly c b =
    is_ground c.parser.phase && cond (is_character b) (is_unshifted c.shift && not c.cursor.wrap)
    (cond (is_edge b) (skipped (used_set c b) b) (is_direct b))

-- in the bottom margin's row, insert mode and autowrap off, no shift pending, and all rows that scroll are known to have changed
abbrev pub scrolls_lines : Core → ℕ → Bool
scrolls_lines c known =
    (c.cursor.row == c.margins.bottom) && (not (c.modes.insert || c.modes.autowrap)
    && ((is_unshifted c.shift && nat_lt c.margins.top c.margins.bottom)
    && all_known known (c.margins.top - 1) (c.margins.bottom - (c.margins.top - 1))))
