-- What the program puts into its buffer.
use Rattle.std.specs.Prelude.{◌≡◌, ℕ, zero, suc, ◌+◌, ◌/◌, ◌%◌, min, max, List, [], ◌∷◌, ◌++◌, length}
use Rattle.std.proofs.lemmas.List.Edits.{sets}
use Rattle.ground.specs.declared.writing.Writer.{Writer}

-- these bytes were put from `at` on, up to `next`, and nothing else; what does not fit is left out
pub record PutAt (before : List ℕ) (at : ℕ) (bytes : List ℕ) (later : List ℕ) (next : ℕ) : Type 0 where
  pub is : later ≡ sets before at bytes
  pub ends : next ≡ min (at + length bytes) (max at (length before))
  pub long : length later ≡ length before

-- these bytes were put at a writer's place, which is after them now, into the buffer that it was lent
pub record Put (before : Writer) (bytes : List ℕ) (later : Writer) : Type 0 where
  pub same : later.bytes.ghost_name ≡ before.bytes.ghost_name
  pub put : PutAt before.bytes.now before.len bytes later.bytes.now later.len

-- k bytes of a number, the lowest first
abbrev pub low_first : ℕ → ℕ → List ℕ
low_first zero n = []
low_first (suc k) n = n % 256 ∷ low_first k (n / 256)

-- words, two bytes each
abbrev pub word_bytes : List ℕ → List ℕ
word_bytes [] = []
word_bytes (w ∷ ws) = low_first 2 w ++ word_bytes ws
