-- Programs that leak: each feeds as `feed` promises, and then sends, answers, counts or keeps something of a cell of page or line, of a changed row
-- or of the line's flag. `NoLeak` is false of each, so the statement rules them out: one for each part of what it says.
use Rattle.std.specs.Prelude.{ℕ, ◌+◌, ◌*◌, ◌%◌, ◌^◌, Bool, cond, List, [], ◌∷◌, drop, slice_index}
use Rattle.cells.specs.Cells.{bit, unpacked}
use Rattle.core_state.specs.declared.StatusLine.{StatusLine}
use Rattle.core_state.specs.declared.Displays.{Displays}
use Rattle.core_state.specs.Effects.{with_protected}
use Rattle.steps.specs.declared.State.{State}
use Rattle.steps.specs.Steps.{Buffers, buffers}
use Rattle.terminal.specs.Answers.{Answer, Done, NoRoom}
use Rattle.terminal.specs.Feed.{Feed, feed_as}
use Rattle.terminal.specs.Read.{cell_at}
use Rattle.demands.specs.Leak.{feeds, NoLeak}

-- ---- what they look at

-- the word under the cursor
abbrev pub word_there : Feed → ℕ
word_there f = let at = f.result.state.displays.core.cursor in cell_at f.buffers.page at.row at.column

abbrev pub is_protected_there : Feed → Bool
is_protected_there f = (unpacked (word_there f)).protected

-- the line's first word
abbrev pub word_of_line : Feed → ℕ
word_of_line f = slice_index f.buffers.line 0

-- ---- what they do

-- the same page and line; this answer, these counts, this state, this reply buffer
abbrev pub but : Feed → Answer → ℕ → ℕ → State → List ℕ → Feed
but f a read replied s reply = feed_as a read replied s f.buffers reply

-- this one byte is sent
abbrev pub sends_byte : Feed → ℕ → Feed
sends_byte f x = but f f.result.answer f.result.read 1 f.result.state (x ∷ drop 1 f.reply)

-- an answerback of what stands under the cursor
abbrev pub answers_cell : Feed → Feed
answers_cell f = sends_byte f (word_there f % 128)

-- a reply that depends on a changed row, the first
abbrev pub answers_row : Feed → Feed
answers_row f = sends_byte f (f.result.state.tracked.changed % 2)

-- one that depends on a cell of the line, and one that depends on whether any has changed
abbrev pub answers_line : Feed → Feed
answers_line f = sends_byte f (word_of_line f % 128)

abbrev pub answers_flag : Feed → Feed
answers_flag f = sends_byte f (bit f.result.state.tracked.flag)

-- one byte more is sent, whatever it is
abbrev pub sends_more : Feed → Feed
sends_more f = but f f.result.answer f.result.read (f.result.replied + bit (is_protected_there f)) f.result.state f.reply

-- as if there were no room
abbrev pub stops_there : Feed → Feed
stops_there f = but f (cond (is_protected_there f) NoRoom Done) f.result.read f.result.replied f.result.state f.reply

-- a count of bytes read that is not that
abbrev pub counts_word : Feed → Feed
counts_word f = but f f.result.answer (word_there f) f.result.replied f.result.state f.reply

-- protection as it is under the cursor: nothing is sent of it, but a report may tell it
abbrev pub keeps_protection : Feed → Feed
keeps_protection f =
    let s = f.result.state in
    let k : Displays = record { core = with_protected s.displays.core (is_protected_there f); line = s.displays.line } in
    but f f.result.answer f.result.read f.result.replied (record { displays = k; tracked = s.tracked }) f.reply

-- a column of the line by what the line holds: a position report may tell it
abbrev pub keeps_column : Feed → Feed
keeps_column f =
    let s = f.result.state in
    let l = s.displays.line in
    let m : StatusLine = record { present = l.present; active = l.active; column = word_of_line f % 80 + 1; wrap = l.wrap; saved = l.saved } in
    let k : Displays = record { core = s.displays.core; line = m } in
    but f f.result.answer f.result.read f.result.replied (record { displays = k; tracked = s.tracked }) f.reply

-- a state that the next call refuses, by a changed row past the last
abbrev pub breaks_state : Feed → Feed
breaks_state f =
    let s = f.result.state in
    let t = s.tracked in
    but f f.result.answer f.result.read f.result.replied
    (record { displays = s.displays; tracked = record { changed = t.changed + 2 ^ 63 * bit (is_protected_there f); flag = t.flag } }) f.reply

-- a page that the next call refuses, and a line
abbrev leaving : Feed → Buffers → Feed
leaving f p = feed_as f.result.answer f.result.read f.result.replied f.result.state p f.reply

abbrev pub cuts_page : Feed → Feed
cuts_page f = leaving f (buffers (cond (is_protected_there f) [] f.buffers.page) f.buffers.line)

abbrev pub cuts_line : Feed → Feed
cuts_line f = leaving f (buffers f.buffers.page (cond (is_protected_there f) [] f.buffers.line))

-- ---- the statement

abbrev pub Leaks : (Feed → Feed) → Type 0
Leaks then = NoLeak (λ a i. then (feeds a i)) → ⊥

pub record RuledOut : Type 0 where
  pub answers-cell : Leaks answers_cell
  pub answers-row : Leaks answers_row
  pub answers-line : Leaks answers_line
  pub answers-flag : Leaks answers_flag
  pub sends_more : Leaks sends_more
  pub stops-there : Leaks stops_there
  pub counts-word : Leaks counts_word
  pub keeps-protection : Leaks keeps_protection
  pub keeps-column : Leaks keeps_column
  pub breaks-state : Leaks breaks_state
  pub cuts-page : Leaks cuts_page
  pub cuts-line : Leaks cuts_line
