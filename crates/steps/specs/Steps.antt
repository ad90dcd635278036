-- The byte's step or steps: displays, cells and what is tracked after each byte of an input, and what it sends.
use Rattle.std.specs.Prelude.{ℕ, suc, ◌-◌, Bool, false, cond, not, ◌||◌, List, [], ◌∷◌, ◌++◌, length, ◌==◌, bit_or, nat_lt}
use Rattle.page.specs.declared.Edit.{Edit}
use Rattle.cells.specs.Sets.{added, changed_in}
use Rattle.page.specs.Edits.{applied, is_keep}
use Rattle.core_state.specs.declared.Displays.{Displays}
use Rattle.dispatch.specs.Displays.{Edits, carried_out, sends_of}
use Rattle.steps.specs.declared.State.{State}
use Rattle.steps.specs.declared.Tracked.{Tracked}

-- no changed row, and an unchanged line
abbrev pub nothing_tracked : Tracked
nothing_tracked = record { changed = 0; flag = false }

-- the cells that are lent: of the page, and of the line
pub record Buffers : Type 0 where
  pub page : List ℕ
  pub line : List ℕ

abbrev pub buffers : List ℕ → List ℕ → Buffers
buffers p l = record { page = p; line = l }

-- what bytes act on: displays and cells; and what is tracked, on which neither depends
pub record Screen : Type 0 where
  pub displays : Displays
  pub buffers : Buffers
  pub tracked : Tracked

abbrev pub screen : State → Buffers → Screen
screen s p = record { displays = s.displays; buffers = p; tracked = s.tracked }

-- ---- one step

-- a page and its changed rows, as bits
pub record Marked : Type 0 where
  pub page : List ℕ
  pub changed : ℕ

-- one step: the page after its edit, and the rows added in which a cell is another word
abbrev pub edited : ℕ → Edit → Marked → Marked
edited r e m =
    let q = applied r e m.page in
    let more : Marked = record { page = q; changed = added r m.changed (changed_in r m.page q) } in
    cond (is_keep e) m more

-- at most two steps of a page of r rows, and the rows that they changed
abbrev pub edited_by : ℕ → Edits → List ℕ → Marked
edited_by r x p = edited r x.second (edited r x.first (record { page = p; changed = 0 }))

-- ---- one byte

-- what it does: displays and cells after it, the rows that it changed, and whether it changed the line
pub record Acted : Type 0 where
  pub displays : Displays
  pub buffers : Buffers
  pub changed : ℕ
  pub flag : Bool

-- the line is a page of one row
unfoldable pub acted : Displays → Buffers → ℕ → Acted
acted k p b =
    let x = carried_out k b in
    let m = edited_by k.core.rows x.page p.page in
    let l = edited_by 1 x.line p.line in
    record { displays = x.displays; buffers = buffers m.page l.page; changed = m.changed; flag = not (l.changed == 0) }

-- the rows that a byte changed are added to what is tracked, and the flag is set if it changed the line
abbrev pub noted : Tracked → ℕ → Bool → Tracked
noted t rows flag = record { changed = bit_or t.changed rows; flag = flag || t.flag }

unfoldable pub stepped : Screen → ℕ → Screen
stepped d b =
    let a = acted d.displays d.buffers b in
    record { displays = a.displays; buffers = a.buffers; tracked = noted d.tracked a.changed a.flag }

-- ---- bytes, one after the other

unfoldable pub ran : Screen → List ℕ → Screen
ran d [] = d
ran d (b ∷ bs) = ran (stepped d b) bs

-- the displays after them, which depend on no cell
unfoldable pub ran_displays : Displays → List ℕ → Displays
ran_displays k [] = k
ran_displays k (b ∷ bs) = ran_displays (carried_out k b).displays bs

-- the bytes that they send
unfoldable pub sent : Displays → List ℕ → List ℕ
sent k [] = []
sent k (b ∷ bs) = sends_of k b ++ sent (carried_out k b).displays bs

-- how many of them are read: all, or those before the first whose reply is longer than the room left
unfoldable pub readable : ℕ → Displays → List ℕ → ℕ
readable room k [] = 0
readable room k (b ∷ bs) =
    let n = length (sends_of k b) in
    let more = suc (readable (room - n) (carried_out k b).displays bs) in
    cond (nat_lt room n) 0 more
