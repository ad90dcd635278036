-- The model of demand 3 (SCOPE 9): displays, a page, a line, a set of rows and a flag of its own.
-- It is fed the calls' arguments, without page, line or state, and told which calls were refused.
use Rattle.std.specs.Prelude.{ℕ, zero, suc, ◌-◌, Bool, false, cond, ◌||◌, List, [], ◌∷◌, ◌++◌, length, take, nat_lt}
use Rattle.cells.specs.Rows.{row}
use Rattle.cells.specs.Sets.{size_of, changed}
use Rattle.page.specs.declared.Edit.{Edit}
use Rattle.page.specs.Edits.{applied}
use Rattle.core_state.specs.declared.Displays.{Displays}
use Rattle.core_state.specs.Fresh.{fresh_core}
use Rattle.core_state.specs.StatusLine.{fresh_line}
use Rattle.dispatch.specs.Displays.{carried_out}
use Rattle.steps.specs.Steps.{Buffers, buffers, sent, readable}
use Rattle.terminal.specs.Start.{blank_buffers}
use Rattle.terminal.specs.Read.{cell_at}

-- ---- calls, and what is seen of them

-- a call's arguments, without page, line and state: input and reply buffer; nothing; row and column; row
pub data Call : Type 0 where
  feeding : List ℕ → List ℕ → Call
  asking : Call
  reading : ℕ → ℕ → Call
  rowing : ℕ → Call

pub record Notice : Type 0 where
  pub call : Call
  pub refused : Bool

-- what is seen of a call that is not refused: the answer's number, how many bytes were read, and the bytes sent;
-- the rows reported, their number, the line's flag, and a reader's copy with these rows, and the line where the flag is set, replaced;
-- a cell's word; the cells of a row
pub data Seen : Type 0 where
  feed_seen : ℕ → ℕ → List ℕ → Seen
  rows_seen : List ℕ → ℕ → Bool → Buffers → Seen
  cell_seen : ℕ → Seen
  row_seen : List ℕ → Seen

-- the rows below n that are in a set, by their numbers from 1
unfoldable pub row_list : ℕ → (ℕ → Bool) → List ℕ
row_list zero s = []
row_list (suc n) s = row_list n s ++ cond (s n) (suc n ∷ []) []

-- ---- the model

pub record Model : Type 0 where
  pub displays : Displays
  pub buffers : Buffers
  pub rows : ℕ → Bool
  pub flag : Bool

-- the start: displays, page and line fresh, the set empty, the flag unset
abbrev pub begun : ℕ → Model
begun r = record { displays = record { core = fresh_core r; line = fresh_line }; buffers = blank_buffers r; rows = λ k. false; flag = false }

-- a row joins the set if one of its cells is another word after the step than before it
abbrev pub joins : (ℕ → Bool) → List ℕ → List ℕ → ℕ → Bool
joins s p q k = s k || changed p q k

-- one step: an edit of the page, and one of the line, which is a page of one row. The flag is set if one of its cells is another word.
abbrev pub step : Edit → Edit → Model → Model
step e f m =
    let p = applied m.displays.core.rows e m.buffers.page in
    let l = applied 1 f m.buffers.line in
    record {
      displays = m.displays;
      buffers = buffers p l;
      rows = joins m.rows m.buffers.page p;
      flag = m.flag || changed m.buffers.line l 0;
    }

-- one byte: at most two steps
unfoldable pub byte : Model → ℕ → Model
byte m b =
    let x = carried_out m.displays b in
    let n = step x.page.second x.line.second (step x.page.first x.line.first m) in
    record { displays = x.displays; buffers = n.buffers; rows = n.rows; flag = n.flag }

unfoldable pub bytes : Model → List ℕ → Model
bytes m [] = m
bytes m (b ∷ bs) = bytes (byte m b) bs

-- the input to its end, or to before the first byte whose reply is longer than the room left
abbrev pub taken : Model → List ℕ → List ℕ → List ℕ
taken m input reply = take (readable (length reply) m.displays input) input

abbrev pub after_call : Model → Call → Model
after_call m (feeding input reply) = bytes m (taken m input reply)
after_call m asking = record { displays = m.displays; buffers = m.buffers; rows = λ k. false; flag = false }
after_call m (reading r c) = m
after_call m (rowing r) = m

-- the cells of whichever display is active
abbrev pub active_of : Model → List ℕ
active_of m = cond m.displays.line.active m.buffers.line m.buffers.page

-- the copy shown is the model's page and line themselves
abbrev pub shows : Model → Call → Seen
shows m (feeding input reply) =
    let n = readable (length reply) m.displays input in
    feed_seen (cond (nat_lt n (length input)) 3 0) n (sent m.displays (take n input))
shows m asking =
    let r = m.displays.core.rows in
    rows_seen (row_list r m.rows) (size_of r m.rows) m.flag m.buffers
shows m (reading r c) = cell_seen (cell_at m.buffers.page r c)
shows m (rowing r) = row_seen (row (active_of m) (r - 1))

-- ---- a list of calls: a refused one changes nothing and shows nothing

abbrev pub after_notice : Model → Notice → Model
after_notice m t = cond t.refused m (after_call m t.call)

abbrev pub shows_notice : Model → Notice → List Seen
shows_notice m t = cond t.refused [] (shows m t.call ∷ [])

unfoldable pub ends : Model → List Notice → Model
ends m [] = m
ends m (t ∷ ts) = ends (after_notice m t) ts

unfoldable pub shows_all : Model → List Notice → List Seen
shows_all m [] = []
shows_all m (t ∷ ts) = shows_notice m t ++ shows_all (after_notice m t) ts
