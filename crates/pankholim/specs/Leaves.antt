-- What each function for C leaves: the number that it returns, the record, and what was lent to it, in terms of the calls' own definitions.
use Rattle.std.specs.Prelude.{cond, List, ◌≡◌, ℕ, length, Result, Ok, Err}
use Rattle.terminal.specs.declared.Refusal.{Refusal}
use Rattle.terminal.specs.Answers.{Answer, Done, NoRoom, number, refusal, answer_of}
use Rattle.steps.specs.declared.State.{State}
use Rattle.steps.specs.Steps.{Buffers}
use Rattle.terminal.specs.Start.{Start}
use Rattle.terminal.specs.Feed.{Feed}
use Rattle.terminal.specs.Ask.{Ask}
use Rattle.terminal.specs.Read.{Read}
use Rattle.terminal.specs.Row.{RowRead}
use Rattle.terminal.specs.CursorRead.{CursorReading}
use Rattle.text.specs.Text.{page_text, written}
use Rattle.record.specs.declared.Terminal.{Terminal}
use Rattle.record.specs.Numbers.{flag_number}
use Rattle.record.specs.Record.{state_of, record_of}
use Rattle.pankholim.specs.declared.by_value.Fed.{Fed}
use Rattle.pankholim.specs.declared.by_value.Asked.{Asked}

-- the record that a call leaves: refused, as it came, else that of the state returned
abbrev pub record_left : Terminal → Answer → State → Terminal
record_left t a s = cond (refusal a) t (record_of s)

-- t is the record at entry, and d is `started` of a number of rows, a page and a line; the number returned, and the record and both buffers at exit.
-- Refused, the record is left, and with it its state: the fresh 24-row state that the call by value returns is not stored.
pub record StartLeaves (t : Terminal) (d : Start) (r : ℕ) (terminal : Terminal) (buffers : Buffers) : Type 0 where
  pub answer-is : r ≡ d.number
  pub state-is : state_of terminal ≡ cond (refusal d.result.answer) (state_of t) d.result.state
  pub terminal-is : terminal ≡ record_left t d.result.answer d.result.state
  pub buffers-is : buffers ≡ d.buffers

-- t is the record at entry, and d is `fed` of its state, a page and a line, the input and a reply buffer; the number returned, and the rest at exit
pub record FeedLeaves (t : Terminal) (d : Feed) (r : ℕ) (terminal : Terminal) (buffers : Buffers) (reply : List ℕ) (read replied : ℕ) : Type 0 where
  pub answer-is : r ≡ d.number
  pub state-is : state_of terminal ≡ d.result.state
  pub terminal-is : terminal ≡ record_left t d.result.answer d.result.state
  pub buffers-is : buffers ≡ d.buffers
  pub reply-is : reply ≡ d.reply
  pub read_is : read ≡ d.result.read
  pub replied-is : replied ≡ d.result.replied

-- the same, of what the feeding by value returns: refused, the record is left, nothing was read and nothing sent
abbrev pub FeedGives : Terminal → Feed → Result Fed Refusal → Buffers → List ℕ → Type 0
FeedGives t d (Ok f) p o = FeedLeaves t d (number (cond f.full NoRoom Done)) f.terminal p o f.read f.replied
FeedGives t d (Err e) p o = FeedLeaves t d (number (answer_of e)) t p o 0 0

-- t is the record at entry, and d is `asked` of its state; the number returned, and the record, the changed rows, how many they are and the line's flag
-- at exit
pub record AskLeaves (t : Terminal) (d : Ask) (r : ℕ) (terminal : Terminal) (changed count flag : ℕ) : Type 0 where
  pub answer-is : r ≡ d.number
  pub state-is : state_of terminal ≡ d.result.state
  pub terminal-is : terminal ≡ record_left t d.result.answer d.result.state
  pub changed-is : changed ≡ d.result.rows
  pub count-is : count ≡ d.result.count
  pub flag_is : flag ≡ flag_number d.result.flag

-- the same, of what the asking by value returns: refused, the record is left, and nothing is told
abbrev pub AskGives : Terminal → Ask → Result Asked Refusal → Type 0
AskGives t d (Ok a) = AskLeaves t d (number Done) a.terminal a.rows a.count a.flag
AskGives t d (Err e) = AskLeaves t d (number (answer_of e)) t 0 0 0

-- d is `cell_read` of a record's state, a page, a row and a column; the number returned, and the word at exit
pub record ReadLeaves (d : Read) (r word : ℕ) : Type 0 where
  pub answer-is : r ≡ d.number
  pub word-is : word ≡ d.result.word

-- d is `row_read` of a record's state, a page, a line and a row; the number returned, and the cells of the part at exit
pub record RowLeaves (d : RowRead) (r : ℕ) (part : List ℕ) : Type 0 where
  pub answer-is : r ≡ d.number
  pub part-is : part ≡ d.cells

-- d is `cursor_read` of a record's state; the number returned, and the row, the column and the two flags at exit
pub record CursorLeaves (d : CursorReading) (r row column wrap shown : ℕ) : Type 0 where
  pub answer-is : r ≡ d.number
  pub row_is : row ≡ d.result.row
  pub column-is : column ≡ d.result.column
  pub wrap-is : wrap ≡ flag_number d.result.wrap
  pub shown-is : shown ≡ flag_number d.result.shown

-- a page and a buffer; the number returned, and the buffer and the bytes that the text takes at exit
pub record WriteLeaves (p o : List ℕ) (r : ℕ) (out : List ℕ) (len : ℕ) : Type 0 where
  pub answer-is : r ≡ (written p o).number
  pub out-is : out ≡ (written p o).buffer
  pub len_is : len ≡ length (page_text p)
