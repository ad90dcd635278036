-- Nothing of page and line reaches the modem (SCOPE 8.15), of `pankholim_feed`: the same of what its promise (pankholim/specs/Leaves.antt) says.
use Rattle.std.specs.Prelude.{◌≡◌, ℕ, true, List, [], length, take}
use Rattle.steps.specs.Steps.{Buffers, buffers}
use Rattle.steps.specs.Whole.{whole_state, right_sizes}
use Rattle.terminal.specs.Feed.{fed}
use Rattle.record.specs.declared.Terminal.{Terminal}
use Rattle.record.specs.Record.{state_of}
use Rattle.pankholim.specs.Leaves.{FeedLeaves}

-- the record with no changed row and the flag unset, and all else as it is
abbrev pub untracked_record : Terminal → Terminal
untracked_record t = record {
  changed = 0;
  values = t.values;
  tabs = t.tabs;
  rows = t.rows;
  top = t.top;
  bottom = t.bottom;
  protected = t.protected;
  shift = t.shift;
  cursor = t.cursor;
  modes = t.modes;
  rendition = t.rendition;
  sets = t.sets;
  saved = t.saved;
  parser = t.parser;
  status = t.status;
  flag = 0;
  unused = t.unused;
}

-- all that `pankholim_feed` is lent beside its input
pub record ConsoleForC : Type 0 where
  pub terminal : Terminal
  pub buffers : Buffers
  pub reply : List ℕ

-- the number that it returns, and what it leaves
pub record FedForC : Type 0 where
  pub number : ℕ
  pub terminal : Terminal
  pub buffers : Buffers
  pub reply : List ℕ
  pub read : ℕ
  pub replied : ℕ

-- what it promises
abbrev pub FeedPromise : ConsoleForC → List ℕ → FedForC → Type 0
FeedPromise a i x =
    FeedLeaves a.terminal (fed (state_of a.terminal) a.buffers i a.reply) x.number x.terminal x.buffers x.reply x.read x.replied

-- without page, line, changed rows and flag, and of the reply buffer the bytes sent
abbrev pub without_cells_for_c : FedForC → FedForC
without_cells_for_c x = record {
  number = x.number;
  terminal = untracked_record x.terminal;
  buffers = buffers [] [];
  reply = take x.replied x.reply;
  read = x.read;
  replied = x.replied;
}

abbrev pub after_for_c : FedForC → List ℕ → ConsoleForC
after_for_c x o = record { terminal = x.terminal; buffers = x.buffers; reply = o }

-- Records that differ in nothing but the changed rows and the line's flag, whole both or neither; where they are whole, pages and lines of the right
-- length both or neither; and as much room.
pub record AlikeForC (a b : ConsoleForC) : Type 0 where
  pub records : untracked_record a.terminal ≡ untracked_record b.terminal
  pub whole : whole_state (state_of a.terminal) ≡ whole_state (state_of b.terminal)
  pub size : whole_state (state_of a.terminal) ≡ true
      → right_sizes (state_of a.terminal).displays.core.rows a.buffers ≡ right_sizes (state_of b.terminal).displays.core.rows b.buffers
  pub room : length a.reply ≡ length b.reply

pub record SameFedForC (x y : FedForC) : Type 0 where
  pub shown : without_cells_for_c x ≡ without_cells_for_c y
  pub alike : (o r : List ℕ) → length o ≡ length r → AlikeForC (after_for_c x o) (after_for_c y r)

-- Lent two consoles that are alike, and the same input, it does the same, and what it leaves is alike again.
abbrev pub NoLeakForC : Type 0
NoLeakForC = (a b : ConsoleForC) (i : List ℕ) (x y : FedForC) → AlikeForC a b → FeedPromise a i x → FeedPromise b i y → SameFedForC x y
