-- Nothing of page and line reaches the modem (SCOPE 8.13, 8.14): what a feeding answers, counts, sends and leaves in the state, but for the changed
-- rows and the line's flag, does not depend on page or line, nor on which rows have changed, nor on the flag. A sentence above each statement;
-- proofs/Leak.antt has a theorem of each type.
use Rattle.std.specs.Prelude.{◌≡◌, ℕ, true, cond, List, [], ◌∷◌, ◌++◌, map, length}
use Rattle.steps.specs.declared.State.{State}
use Rattle.steps.specs.Steps.{nothing_tracked, Buffers, buffers}
use Rattle.steps.specs.Whole.{whole_state, right_sizes}
use Rattle.terminal.specs.Feed.{Feed, fed}
use Rattle.demands.specs.Model.{Call, feeding, asking, reading, rowing}
use Rattle.demands.specs.World.{World, Item, Loan, lent_to, is_refused, next, ends_at, Proper}
use Rattle.demands.specs.Statements.{Sized, sent_by}

-- ---- what does not come from cells

-- The state with no changed row and the flag unset, and all else as it is: two states agree in all but changed rows and flag if these are the same.
abbrev pub untracked : State → State
untracked s = record { displays = s.displays; tracked = nothing_tracked }

-- A feeding without what comes from cells: without page, line, changed rows and flag, and of the reply buffer the bytes sent.
abbrev pub without_cells : Feed → Feed
without_cells f =
    let r = f.result in
    record {
      number = f.number;
      result = record { answer = r.answer; read = r.read; replied = r.replied; state = untracked r.state };
      buffers = buffers [] [];
      reply = sent_by f;
    }

-- These are all that is left out: with them put back, it is the feeding again.
abbrev pub LeftOut : Type 0
LeftOut = (f : Feed)
    → let r = (without_cells f).result in
    f ≡ record {
      number = (without_cells f).number;
      result = record {
        answer = r.answer;
        read = r.read;
        replied = r.replied;
        state = record { displays = r.state.displays; tracked = f.result.state.tracked };
      };
      buffers = f.buffers;
      reply = f.reply;
    }

-- ---- one feeding

-- all that a feeding is given beside its input
pub record Console : Type 0 where
  pub state : State
  pub buffers : Buffers
  pub reply : List ℕ

-- a feeding, as `feed` promises it
abbrev pub feeds : Console → List ℕ → Feed
feeds a i = fed a.state a.buffers i a.reply

-- what a feeding leaves, with a reply buffer for the next
abbrev pub after : Feed → List ℕ → Console
after f o = record { state = f.result.state; buffers = f.buffers; reply = o }

-- Two consoles that a modem must not tell apart: states that agree in all but changed rows and flag, whole both or neither; where they are whole,
-- pages and lines of the right length both or neither; and as much room.
pub record Alike (a b : Console) : Type 0 where
  pub states : untracked a.state ≡ untracked b.state
  pub whole : whole_state a.state ≡ whole_state b.state
  pub size : whole_state a.state ≡ true
      → right_sizes a.state.displays.core.rows a.buffers ≡ right_sizes b.state.displays.core.rows b.buffers
  pub room : length a.reply ≡ length b.reply

-- The same but for what comes from cells; and what is left is alike again, so that the next feeding is refused in both or in neither.
pub record SameFed (f g : Feed) : Type 0 where
  pub shown : without_cells f ≡ without_cells g
  pub alike : (o r : List ℕ) → length o ≡ length r → Alike (after f o) (after g r)

-- A program that feeds does not leak: given two consoles that are alike, and the same input, it does the same. What is refused is among this.
abbrev pub NoLeak : (Console → List ℕ → Feed) → Type 0
NoLeak program = (a b : Console) (i : List ℕ) → Alike a b → SameFed (program a i) (program b i)

-- In the request's words: two whole states agree in all but the changed rows and the line's flag; any pages and lines of the right length, the same
-- input, as much room. The answer, both counts, the replies and all else of the state are equal.
pub record SameSeen (f g : Feed) : Type 0 where
  pub answer : f.number ≡ g.number
  pub read : f.result.read ≡ g.result.read
  pub replied : f.result.replied ≡ g.result.replied
  pub replies : sent_by f ≡ sent_by g
  pub state : untracked f.result.state ≡ untracked g.result.state

abbrev pub NoLeakOfWhole : Type 0
NoLeakOfWhole = (s t : State) (p q : Buffers) (i o r : List ℕ) → whole_state s ≡ true → whole_state t ≡ true → untracked s ≡ untracked t
    → Sized s p → Sized t q → length o ≡ length r → SameSeen (fed s p i o) (fed t q i r)

-- ---- every list of calls

-- a feeding in a list: its input, the room that it had for replies, and what came of it
pub record Turn : Type 0 where
  pub input : List ℕ
  pub room : ℕ
  pub came : Feed

abbrev pub turn_of : World → State → Loan → Call → List Turn
turn_of w s l (feeding i o) = record { input = i; room = length o; came = fed s (lent_to w l) i o } ∷ []
turn_of w s l asking = []
turn_of w s l (reading r c) = []
turn_of w s l (rowing r) = []

-- the feedings that were not refused
unfoldable pub turns : World → List Item → List Turn
turns w [] = []
turns w (x ∷ xs) = cond (is_refused w x) [] (turn_of w x.state x.lent x.call) ++ turns (next w x) xs

abbrev pub given : Turn → List ℕ × ℕ
given t = (t.input, t.room)

abbrev pub shown : Turn → Feed
shown t = without_cells t.came

-- her page, her line and the newest state, as a console
abbrev pub hers : World → Console
hers w = record { state = w.state; buffers = w.buffers; reply = [] }

pub record SameTurns (w v : World) (xs ys : List Item) : Type 0 where
  pub same : map shown (turns w xs) ≡ map shown (turns v ys)
  pub alike : Alike (hers (ends_at w xs)) (hers (ends_at v ys))

-- Two worlds that are alike, and two proper lists of calls, of which the unrefused feedings have the same inputs and as much room, in order.
-- Then each of these feedings does the same in both, and the worlds are alike at the end. What is asked, read and refused may differ.
abbrev pub NoLeakEver : Type 0
NoLeakEver = (w v : World) (xs ys : List Item) → Alike (hers w) (hers v) → Proper w xs → Proper v ys
    → map given (turns w xs) ≡ map given (turns v ys) → SameTurns w v xs ys
