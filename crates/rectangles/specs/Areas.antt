-- The area of a function on rectangles (SCOPE 5.47 and 5.48). Rows and columns count from 1, and the edges are inside.
use Rattle.std.specs.Prelude.{ℕ, ◌+◌, ◌-◌, min, Bool, cond, ◌&&◌, ◌==◌, nat_le}
use Rattle.parser.specs.declared.params.Params.{Params}
use Rattle.parser.specs.Params.{param}
use Rattle.core_state.specs.declared.Core.{Core}
use Rattle.core_state.specs.Geometry.{first_row}
use Rattle.rectangles.specs.declared.areas.Area.{Area}

-- an edge of 0 is the page's own; others count from T with origin on, held to the page
abbrev pub row_edge : Core → ℕ → ℕ → ℕ
row_edge c p own = cond (p == 0) own (min c.rows (first_row c + (p - 1)))

abbrev pub column_edge : ℕ → ℕ → ℕ
column_edge p own = cond (p == 0) own (min p 80)

-- of the four parameters from i on: top, left, bottom, right
unfoldable pub area_at : Core → Params → ℕ → Area
area_at c q i = record {
  top = row_edge c (param q i) 1;
  left = column_edge (param q (i + 1)) 1;
  bottom = row_edge c (param q (i + 2)) c.rows;
  right = column_edge (param q (i + 3)) 80;
}

-- a top below the bottom or a left past the right means ignored
abbrev pub is_taken : Area → Bool
is_taken a = nat_le a.top a.bottom && nat_le a.left a.right
