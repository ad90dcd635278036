-- What the functions that write bytes promise, and those that count them.
use Rattle.std.specs.Prelude.{◌≡◌, List, ℕ, ◌+◌, ◌≤◌, length}
use Rattle.std.proofs.lemmas.List.Edits.{sets}
use Rattle.ground.specs.declared.writing.Writer.{Writer}

-- these bytes were written from `at` on, up to `next`, and nothing else
pub record Wrote (before : List ℕ) (at : ℕ) (bytes : List ℕ) (later : List ℕ) (next : ℕ) : Type 0 where
  pub is : later ≡ sets before at bytes
  pub ends : next ≡ at + length bytes
  pub long : length later ≡ length before

-- a writer has room for so many bytes
abbrev pub Room : Writer → ℕ → Type 0
Room w n = w.len + n ≤ length w.bytes.now

-- these bytes were written at its place, which is after them now, into the buffer that it was lent
pub record Appended (before : Writer) (bytes : List ℕ) (later : Writer) : Type 0 where
  pub same : later.bytes.ghost_name ≡ before.bytes.ghost_name
  pub wrote : Wrote before.bytes.now before.len bytes later.bytes.now later.len

-- how many bytes, and the most that any numbers of a byte give, for sums
pub record Counted (bytes : List ℕ) (most r : ℕ) : Type 0 where
  pub is : r ≡ length bytes
  pub few : r ≤ most
