-- Every list of calls: what each was given, what it answered, and what it left. Each outcome is the definition that the call's promise cites.
use Rattle.std.specs.Prelude.{◌≡◌, ℕ, ◌+◌, Bool, false, cond, not, ◌||◌, List, [], ◌∷◌, ◌++◌, take, drop, ◌==◌}
use Rattle.cells.specs.Rows.{row, joined}
use Rattle.cells.specs.Sets.{has_bit}
use Rattle.steps.specs.declared.State.{State}
use Rattle.steps.specs.Steps.{Buffers, buffers}
use Rattle.terminal.specs.Ask.{Asked, asked}
use Rattle.terminal.specs.Answers.{refusal}
use Rattle.terminal.specs.Start.{started}
use Rattle.terminal.specs.Feed.{fed}
use Rattle.terminal.specs.Read.{cell_read}
use Rattle.terminal.specs.Row.{row_read}
use Rattle.demands.specs.Model.{Call, feeding, asking, reading, rowing, Notice, Seen, feed_seen, rows_seen, cell_seen, row_seen, row_list}

-- ---- what a call was given

-- her page or her line
pub data Which : Type 0 where
  the_page : Which
  the_line : Which

-- a slice that it was lent: one of hers, so many words of it from some place on, or some other list of words
pub data Lent : Type 0 where
  entire : Which → Lent
  part : Which → ℕ → ℕ → Lent
  other : List ℕ → Lent

-- as the page, and as the line
pub record Loan : Type 0 where
  pub page : Lent
  pub line : Lent

-- an item of a list: a call with its state, its page and its line
pub record Item : Type 0 where
  pub call : Call
  pub state : State
  pub lent : Loan

-- her page and her line, the newest state, and a reader's copy of both, which takes the reported rows, and the line where its flag is set, at
-- each asking
pub record World : Type 0 where
  pub buffers : Buffers
  pub state : State
  pub copy : Buffers

-- after the start, with a copy that is right
abbrev pub opened : ℕ → Buffers → World
opened r p = record { buffers = (started r p).buffers; state = (started r p).result.state; copy = (started r p).buffers }

abbrev pub of_hers : Buffers → Which → List ℕ
of_hers p the_page = p.page
of_hers p the_line = p.line

-- the words lent
abbrev pub words_of : Buffers → Lent → List ℕ
words_of p (entire x) = of_hers p x
words_of p (part x a n) = take n (drop a (of_hers p x))
words_of p (other q) = q

abbrev pub lent_to : World → Loan → Buffers
lent_to w l = buffers (words_of w.buffers l.page) (words_of w.buffers l.line)

-- ---- one call

abbrev pub replaced : Buffers → Which → List ℕ → Buffers
replaced p the_page q = buffers q p.line
replaced p the_line q = buffers p.page q

-- hers after a call that left q in a slice
abbrev pub written_back : Buffers → Lent → List ℕ → Buffers
written_back p (entire x) q = replaced p x q
written_back p (part x a n) q = let h = of_hers p x in replaced p x (take a h ++ (q ++ drop (a + n) h))
written_back p (other o) q = p

-- and in both, which do not overlap: the order is all one
abbrev pub buffers_after : World → Loan → Buffers → Buffers
buffers_after w l q = written_back (written_back w.buffers l.page q.page) l.line q.line

-- the rows that an asking reports: every one of the 64 bits counts
abbrev pub reported : Asked → List ℕ
reported a = row_list 64 (has_bit a.rows)

abbrev pub is_listed : List ℕ → ℕ → Bool
is_listed [] k = false
is_listed (r ∷ rs) k = r == k || is_listed rs k

-- a copy of n rows with the listed ones replaced by the page's own
abbrev pub patched : ℕ → List ℕ → List ℕ → List ℕ → List ℕ
patched n rows copy page = joined n (λ k. cond (is_listed rows (k + 1)) (row page k) (row copy k))

-- the copy after an asking of n rows: the line is replaced where its flag is set
abbrev pub copied : ℕ → Asked → World → Buffers
copied n a w =
    buffers (patched n (reported a) w.copy.page w.buffers.page) (cond a.flag w.buffers.line w.copy.line)

-- `row_read` has the answer's number alone; 0 is the only one that is no refusal
abbrev pub refuses : World → State → Loan → Call → Bool
refuses w s l (feeding i o) = refusal (fed s (lent_to w l) i o).result.answer
refuses w s l asking = refusal (asked s).result.answer
refuses w s l (reading r c) = refusal (cell_read s (lent_to w l).page r c).result.answer
refuses w s l (rowing r) = not ((row_read s (lent_to w l) r).number == 0)

-- the newest state becomes the returned one if the call was a feeding or an asking and was not refused
abbrev pub world_after : World → State → Loan → Call → World
world_after w s l (feeding i o) =
    let f = fed s (lent_to w l) i o in
    record {
      buffers = buffers_after w l f.buffers;
      state = cond (refusal f.result.answer) w.state f.result.state;
      copy = w.copy;
    }
world_after w s l asking =
    let a = (asked s).result in
    record {
      buffers = w.buffers;
      state = cond (refusal a.answer) w.state a.state;
      copy = cond (refusal a.answer) w.copy (copied s.displays.core.rows a w);
    }
world_after w s l (reading r c) = w
world_after w s l (rowing r) = w

-- what is seen of a call that is not refused
abbrev pub seen_of : World → State → Loan → Call → Seen
seen_of w s l (feeding i o) =
    let f = fed s (lent_to w l) i o in
    feed_seen f.number f.result.read (take f.result.replied f.reply)
seen_of w s l asking =
    let a = (asked s).result in
    rows_seen (reported a) a.count a.flag (copied s.displays.core.rows a w)
seen_of w s l (reading r c) = cell_seen (cell_read s (lent_to w l).page r c).result.word
seen_of w s l (rowing r) = row_seen (row_read s (lent_to w l) r).cells

-- ---- an item

abbrev pub is_refused : World → Item → Bool
is_refused w x = refuses w x.state x.lent x.call

abbrev pub next : World → Item → World
next w x = world_after w x.state x.lent x.call

abbrev pub seen : World → Item → List Seen
seen w x = cond (is_refused w x) [] (seen_of w x.state x.lent x.call ∷ [])

-- what the model is told
abbrev pub notice_of : World → Item → Notice
notice_of w x = record { call = x.call; refused = is_refused w x }

-- an unrefused call was given the newest state and, where it takes them, her page and her line
abbrev pub BothEntire : Loan → Type 0
BothEntire l = (l.page ≡ entire the_page) × (l.line ≡ entire the_line)

abbrev pub LentEntire : Call → Loan → Type 0
LentEntire (feeding i o) l = BothEntire l
LentEntire asking l = Unit {0}
LentEntire (reading r c) l = l.page ≡ entire the_page
LentEntire (rowing r) l = BothEntire l

pub record Given (w : World) (x : Item) : Type 0 where
  pub newest : x.state ≡ w.state
  pub lends : LentEntire x.call x.lent

-- ---- a list

-- a refused item may have been given anything
abbrev pub Proper : World → List Item → Type 0
Proper w [] = Unit {0}
Proper w (x ∷ xs) = (is_refused w x ≡ false → Given w x) × Proper (next w x) xs

unfoldable pub ends_at : World → List Item → World
ends_at w [] = w
ends_at w (x ∷ xs) = ends_at (next w x) xs

unfoldable pub seen_all : World → List Item → List Seen
seen_all w [] = []
seen_all w (x ∷ xs) = seen w x ++ seen_all (next w x) xs

unfoldable pub notices_of : World → List Item → List Notice
notices_of w [] = []
notices_of w (x ∷ xs) = notice_of w x ∷ notices_of (next w x) xs
