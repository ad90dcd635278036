-- What is proved of the definitions, a sentence above each statement. proofs/ has, for each, a theorem of the type stated here.
-- The promises of the calls are equations with `started`, `fed`, `asked`, `cell_read`, `row_read` and `cursor_read`, so what is proved of these holds
-- of the calls.
use Rattle.std.specs.Prelude.{◌≡◌, ℕ, ◌-◌, ◌*◌, ◌<◌, ◌≤◌, true, false, ◌↔◌, List, [], ◌∷◌, ◌++◌, length, take, drop, ◌≢◌, slice_index}
use Rattle.page.specs.declared.Edit.{Edit}
use Rattle.cells.specs.Cells.{blank}
use Rattle.cells.specs.Rows.{row}
use Rattle.cells.specs.Sets.{size_of, has_bit}
use Rattle.page.specs.Edits.{applied, Within, Faithful}
use Rattle.ground.specs.Tests.{between}
use Rattle.core_state.specs.declared.Displays.{Displays}
use Rattle.core_state.specs.Whole.{sized, whole_displays}
use Rattle.dispatch.specs.Displays.{sends_of}
use Rattle.steps.specs.declared.State.{State}
use Rattle.terminal.specs.Ask.{Asked, asked}
use Rattle.terminal.specs.Answers.{Broken, refusal}
use Rattle.steps.specs.Steps.{Buffers, Screen, stepped, ran, sent, screen}
use Rattle.steps.specs.Whole.{whole_state}
use Rattle.terminal.specs.Start.{fresh, blank_buffers, started}
use Rattle.terminal.specs.Feed.{Feed, fed, Untouched}
use Rattle.terminal.specs.Read.{on_page, cell_at, cell_read}
use Rattle.terminal.specs.Row.{RowRead, active_rows, active_cells, row_read}
use Rattle.terminal.specs.CursorRead.{CursorRead, cursor_read}
use Rattle.demands.specs.Model as M
use Rattle.demands.specs.World as W

-- a page of so many rows, and a line of one
pub record OfSize (r : ℕ) (p : Buffers) : Type 0 where
  pub page : length p.page ≡ 80 * r
  pub line : length p.line ≡ 80

-- one of them, or both, of another length
pub record OtherSize (r : ℕ) (p : Buffers) : Type 0 where
  pub other : OfSize r p → ⊥

-- of the size that a state asks for; of another; its page alone
abbrev pub Sized : State → Buffers → Type 0
Sized s p = OfSize s.displays.core.rows p

abbrev pub Unsized : State → Buffers → Type 0
Unsized s p = OtherSize s.displays.core.rows p

abbrev pub SizedPage : State → List ℕ → Type 0
SizedPage s p = length p ≡ 80 * s.displays.core.rows

-- the state of a screen
abbrev pub state_in : Screen → State
state_in d = record { displays = d.displays; tracked = d.tracked }

-- the bytes that a feeding sent
abbrev pub sent_by : Feed → List ℕ
sent_by f = take f.result.replied f.reply

-- ==== States stay whole.

-- The fresh state of each of the three sizes is whole.
abbrev pub FreshWhole : Type 0
FreshWhole = (r : ℕ) → sized r ≡ true → whole_state (fresh r) ≡ true

-- Every byte's step keeps a whole state whole, with as many rows, and keeps the lengths of page and line.
pub record KeptWhole (s : State) (p : Buffers) (b : ℕ) : Type 0 where
  pub whole : whole_state (state_in (stepped (screen s p) b)) ≡ true
  pub rows : (stepped (screen s p) b).displays.core.rows ≡ s.displays.core.rows
  pub size : length (stepped (screen s p) b).buffers.page ≡ length p.page
  pub line-size : length (stepped (screen s p) b).buffers.line ≡ length p.line

abbrev pub StepWhole : Type 0
StepWhole = (s : State) (p : Buffers) (b : ℕ) → whole_state s ≡ true → Sized s p → KeptWhole s p b

-- The state that a start returns, refused or not, is whole; so is the one that an unrefused feeding or asking returns.
abbrev pub StartWhole : Type 0
StartWhole = (r : ℕ) (p : Buffers) → whole_state (started r p).result.state ≡ true

abbrev pub FeedWhole : Type 0
FeedWhole = (s : State) (p : Buffers) (i o : List ℕ) → refusal (fed s p i o).result.answer ≡ false
    → whole_state (fed s p i o).result.state ≡ true

abbrev pub AskWhole : Type 0
AskWhole = (s : State) → refusal (asked s).result.answer ≡ false → whole_state (asked s).result.state ≡ true

-- ==== Where core and line are whole, no byte sends more than 11 bytes.

abbrev pub RepliesShort : Type 0
RepliesShort = (k : Displays) (b : ℕ) → whole_displays k ≡ true → length (sends_of k b) ≤ 11

-- ==== Demand 1. Any bytes are taken without harm.

-- The next byte's reply is longer than the room left.
pub record NextTooLong (f : Feed) (i o : List ℕ) : Type 0 where
  pub more : f.result.read < length i
  pub long : length o - f.result.replied < length (sends_of f.result.state.displays (slice_index i f.result.read))

-- A feeding's answers are given exactly when SCOPE 2 says, 1 before 2; 0 where the buffer holds all that the input sends, 3 where it does
-- not. At 0 all input was read. At 3 the next byte's reply is longer than the room left.
pub record FeedAnswers (s : State) (p : Buffers) (i o : List ℕ) : Type 0 where
  pub done : (fed s p i o).number ≡ 0 ↔ ((whole_state s ≡ true) × Sized s p × (length (sent s.displays i) ≤ length o))
  pub broken : (fed s p i o).number ≡ 1 ↔ (whole_state s ≡ false)
  pub wrong_size : (fed s p i o).number ≡ 2 ↔ ((whole_state s ≡ true) × Unsized s p)
  pub no_room : (fed s p i o).number ≡ 3 ↔ ((whole_state s ≡ true) × Sized s p × (length o < length (sent s.displays i)))
  pub never : (fed s p i o).number ≡ 4 → ⊥
  pub all_read : (fed s p i o).number ≡ 0 → (fed s p i o).result.read ≡ length i
  pub stopped : (fed s p i o).number ≡ 3 → NextTooLong (fed s p i o) i o

abbrev pub FeedExact : Type 0
FeedExact = (s : State) (p : Buffers) (i o : List ℕ) → FeedAnswers s p i o

-- A refused feeding reads nothing, sends nothing, and leaves page, line, reply buffer and state as they came.
abbrev pub FeedRefused : Type 0
FeedRefused = (s : State) (p : Buffers) (i o : List ℕ) → refusal (fed s p i o).result.answer ≡ true → Untouched s p o (fed s p i o)

-- An unrefused one has done exactly the bytes that it says it read, and sent their replies: what came before the byte that it stopped at, and
-- nothing of that byte.
pub record DoneUpTo (s : State) (p : Buffers) (i : List ℕ) (f : Feed) : Type 0 where
  pub state : f.result.state ≡ state_in (ran (screen s p) (take f.result.read i))
  pub buffers : f.buffers ≡ (ran (screen s p) (take f.result.read i)).buffers
  pub bytes : sent_by f ≡ sent s.displays (take f.result.read i)

abbrev pub FeedDoes : Type 0
FeedDoes = (s : State) (p : Buffers) (i o : List ℕ) → refusal (fed s p i o).result.answer ≡ false → DoneUpTo s p i (fed s p i o)

-- The reply buffer keeps its length, and its bytes past the reply length are unchanged.
pub record RestKept (o : List ℕ) (f : Feed) : Type 0 where
  pub long : length f.reply ≡ length o
  pub within : f.result.replied ≤ length o
  pub rest : drop f.result.replied f.reply ≡ drop f.result.replied o

abbrev pub ReplyKept : Type 0
ReplyKept = (s : State) (p : Buffers) (i o : List ℕ) → RestKept o (fed s p i o)

-- With room for 11 bytes, given input, a whole state, and page and line of the right length, at least one byte is read.
abbrev pub Progress : Type 0
Progress = (s : State) (p : Buffers) (i o : List ℕ) → whole_state s ≡ true → Sized s p → 1 ≤ length i → 11 ≤ length o → 1 ≤ (fed s p i o).result.read

-- Starting answers 1 exactly for another R than 24, 36 and 48, then 2 exactly for another length of page or line; refused, it returns the fresh
-- 24-row state and leaves both; done, the state is fresh and every cell of both blank.
pub record StartAnswers (r : ℕ) (p : Buffers) : Type 0 where
  pub broken : (started r p).number ≡ 1 ↔ (sized r ≡ false)
  pub wrong_size : (started r p).number ≡ 2 ↔ ((sized r ≡ true) × OtherSize r p)
  pub done : (started r p).number ≡ 0 ↔ ((sized r ≡ true) × OfSize r p)
  pub refused : refusal (started r p).result.answer ≡ true → ((started r p).result.state ≡ fresh 24) × ((started r p).buffers ≡ p)
  pub begun : (started r p).number ≡ 0 → ((started r p).result.state ≡ fresh r) × ((started r p).buffers ≡ blank_buffers r)

abbrev pub StartExact : Type 0
StartExact = (r : ℕ) (p : Buffers) → StartAnswers r p

-- The changed rows, how many of their 64 bits are 1, the line's flag, which is not counted, and the state with neither.
pub record Reported (s : State) (a : Asked) : Type 0 where
  pub rows : a.rows ≡ s.tracked.changed
  pub count : a.count ≡ size_of 64 (has_bit s.tracked.changed)
  pub flag : a.flag ≡ s.tracked.flag
  pub displays : a.state.displays ≡ s.displays
  pub emptied : a.state.tracked.changed ≡ 0
  pub cleared : a.state.tracked.flag ≡ false

-- Refused: the empty set, 0, the flag unset, and the state as it came.
pub record NotReported (s : State) (a : Asked) : Type 0 where
  pub rows : a.rows ≡ 0
  pub count : a.count ≡ 0
  pub flag : a.flag ≡ false
  pub state : a.state ≡ s

-- Asking answers 1 exactly for a state that is not whole, and then reports nothing. Else it answers 0, and returns the set, how many rows are in
-- it, the flag, and the state with the set emptied and the flag cleared.
pub record AskAnswers (s : State) : Type 0 where
  pub broken : (asked s).number ≡ 1 ↔ (whole_state s ≡ false)
  pub done : (asked s).number ≡ 0 ↔ (whole_state s ≡ true)
  pub refused : refusal (asked s).result.answer ≡ true → NotReported s (asked s).result
  pub reported : (asked s).number ≡ 0 → Reported s (asked s).result

abbrev pub AskExact : Type 0
AskExact = (s : State) → AskAnswers s

-- Reading a cell answers 1 before 2 before 4, each exactly when SCOPE 2 says; refused, it returns a blank cell.
pub record ReadAnswers (s : State) (p : List ℕ) (r c : ℕ) : Type 0 where
  pub broken : (cell_read s p r c).number ≡ 1 ↔ (whole_state s ≡ false)
  pub wrong_size : (cell_read s p r c).number ≡ 2 ↔ ((whole_state s ≡ true) × (SizedPage s p → ⊥))
  pub off-page : (cell_read s p r c).number ≡ 4 ↔ ((whole_state s ≡ true) × SizedPage s p × (on_page s.displays.core.rows r c ≡ false))
  pub done : (cell_read s p r c).number ≡ 0 ↔ ((whole_state s ≡ true) × SizedPage s p × (on_page s.displays.core.rows r c ≡ true))
  pub refused : refusal (cell_read s p r c).result.answer ≡ true → (cell_read s p r c).result.word ≡ blank
  pub word : refusal (cell_read s p r c).result.answer ≡ false → (cell_read s p r c).result.word ≡ cell_at p r c

abbrev pub ReadExact : Type 0
ReadExact = (s : State) (p : List ℕ) (r c : ℕ) → ReadAnswers s p r c

-- Reading a row answers 1 before 2, for page or line, before 4, each exactly when SCOPE 2 says.
pub record RowAnswers (s : State) (p : Buffers) (r : ℕ) : Type 0 where
  pub broken : (row_read s p r).number ≡ 1 ↔ (whole_state s ≡ false)
  pub wrong_size : (row_read s p r).number ≡ 2 ↔ ((whole_state s ≡ true) × Unsized s p)
  pub off-page : (row_read s p r).number ≡ 4 ↔ ((whole_state s ≡ true) × Sized s p × (between 1 r (active_rows s) ≡ false))
  pub done : (row_read s p r).number ≡ 0 ↔ ((whole_state s ≡ true) × Sized s p × (between 1 r (active_rows s) ≡ true))
  pub never : (row_read s p r).number ≡ 3 → ⊥

abbrev pub RowExact : Type 0
RowExact = (s : State) (p : Buffers) (r : ℕ) → RowAnswers s p r

-- It hands back no cell exactly if it is refused, else the cells of that row of whichever display is active, which are 80.
pub record HandedBack (f : RowRead) (asked-for : List ℕ) : Type 0 where
  pub none : f.cells ≡ [] ↔ (f.number ≢ 0)
  pub cells : f.number ≡ 0 → f.cells ≡ asked-for
  pub long : f.number ≡ 0 → length f.cells ≡ 80

abbrev pub RowHands : Type 0
RowHands = (s : State) (p : Buffers) (r : ℕ) → HandedBack (row_read s p r) (row (active_cells s p) (r - 1))

-- Where the cursor is on the page, from 1, whether a wrap is due there, and whether it is shown.
pub record Placed (s : State) (d : CursorRead) : Type 0 where
  pub row : d.row ≡ s.displays.core.cursor.row
  pub column : d.column ≡ s.displays.core.cursor.column
  pub wrap : d.wrap ≡ s.displays.core.cursor.wrap
  pub shown : d.shown ≡ s.displays.core.modes.shown
  pub on-page : on_page s.displays.core.rows d.row d.column ≡ true

-- Reading the cursor answers 1 exactly for a state that is not whole, and then returns row 0, column 0 and neither flag. Else it answers 0, and
-- returns the cursor, which is on the page.
pub record CursorAnswers (s : State) : Type 0 where
  pub broken : (cursor_read s).number ≡ 1 ↔ (whole_state s ≡ false)
  pub done : (cursor_read s).number ≡ 0 ↔ (whole_state s ≡ true)
  pub refused : (cursor_read s).number ≡ 1 → (cursor_read s).result ≡ record { answer = Broken; row = 0; column = 0; wrap = false; shown = false }
  pub placed : (cursor_read s).number ≡ 0 → Placed s (cursor_read s).result

abbrev pub CursorExact : Type 0
CursorExact = (s : State) → CursorAnswers s

-- ==== Demand 2. Feeding the same bytes in several calls changes nothing, if each call's replies fit.

-- A part of the input, and the reply buffer that its call is lent.
pub record Part : Type 0 where
  pub input : List ℕ
  pub reply : List ℕ

-- Calls one after the other, each given what the one before it left.
pub record Several : Type 0 where
  pub state : State
  pub buffers : Buffers
  pub sent : List ℕ

abbrev pub several : State → Buffers → List Part → Several
several s p [] = record { state = s; buffers = p; sent = [] }
several s p (x ∷ xs) =
    let f = fed s p x.input x.reply in
    let g = several f.result.state f.buffers xs in
    record { state = g.state; buffers = g.buffers; sent = sent_by f ++ g.sent }

-- Each is answered 0.
abbrev pub AllDone : State → Buffers → List Part → Type 0
AllDone s p [] = Unit {0}
AllDone s p (x ∷ xs) =
    let f = fed s p x.input x.reply in
    (f.number ≡ 0) × AllDone f.result.state f.buffers xs

abbrev pub input_of : List Part → List ℕ
input_of [] = []
input_of (x ∷ xs) = x.input ++ input_of xs

-- All at once, with room for what the several calls sent: answer 0, and the same page and line, the same state with the same changed rows and
-- the same flag, and the same replies in a row.
pub record SameAtOnce (g : Several) (f : Feed) : Type 0 where
  pub answer : f.number ≡ 0
  pub buffers : f.buffers ≡ g.buffers
  pub state : f.result.state ≡ g.state
  pub sent : sent_by f ≡ g.sent

abbrev pub Demand2 : Type 0
Demand2 = (s : State) (p : Buffers) (xs : List Part) (o : List ℕ) → whole_state s ≡ true → Sized s p → AllDone s p xs
    → length (several s p xs).sent ≤ length o → SameAtOnce (several s p xs) (fed s p (input_of xs) o)

-- ==== Every edit keeps the page's length and each cell outside its target, and the rows that it changes are exactly those where a
-- cell's word differs.

abbrev pub EveryEdit : Type 0
EveryEdit = (n : ℕ) (e : Edit) (p : List ℕ) → length p ≡ 80 * n → Within n e → Faithful n e p (applied n e p)

-- ==== Demand 3. A page of R rows and a line were started. For every list of calls of which each unrefused one was given the newest state and,
-- where it takes them, her page and her line, and a refused one anything, also parts of hers, or one in place of the other: her page, her line and
-- the newest displays are the model's, and what is seen of the calls is what the model shows: answers, counts and bytes sent of feedings, the rows
-- reported, their number, the line's flag and the reader's copy at each asking, the words and the rows read.

pub record Agrees (w : W.World) (m : M.Model) (xs : List W.Item) : Type 0 where
  pub page : (W.ends_at w xs).buffers.page ≡ (M.ends m (W.notices_of w xs)).buffers.page
  pub line : (W.ends_at w xs).buffers.line ≡ (M.ends m (W.notices_of w xs)).buffers.line
  pub displays : (W.ends_at w xs).state.displays ≡ (M.ends m (W.notices_of w xs)).displays
  pub seen : W.seen_all w xs ≡ M.shows_all m (W.notices_of w xs)

abbrev pub Demand3 : Type 0
Demand3 = (r : ℕ) (p : Buffers) → (started r p).number ≡ 0 → (xs : List W.Item) → W.Proper (W.opened r p) xs
    → Agrees (W.opened r p) (M.begun r) xs
