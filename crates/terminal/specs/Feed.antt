-- Feeding bytes: the whole result, and what is left in page, line and reply buffer.
use Rattle.std.specs.Prelude.{◌≡◌, ℕ, true, cond, List, length, take, nat_lt, Result, Ok, Err}
use Rattle.std.proofs.lemmas.List.Edits.{sets}
use Rattle.steps.specs.declared.State.{State}
use Rattle.terminal.specs.declared.Refused.{Refused}
use Rattle.terminal.specs.Answers.{Answer, Done, Broken, WrongSize, NoRoom, OffPage, number, answer_of, returned}
use Rattle.steps.specs.Steps.{Buffers, screen, ran, sent}
use Rattle.feeding.specs.declared.bytes.FedBytes.{FedBytes}
use Rattle.feeding.specs.Bytes.{read_count}
use Rattle.steps.specs.Whole.{whole_state, right_sizes}

-- the answer, how many bytes of the input were read and how many of the reply buffer written, and the state
pub record Fed : Type 0 where
  pub answer : Answer
  pub read : ℕ
  pub replied : ℕ
  pub state : State

-- the answer's number, the result, and what is left in page, line and reply buffer
pub record Feed : Type 0 where
  pub number : ℕ
  pub result : Fed
  pub buffers : Buffers
  pub reply : List ℕ

-- the answer of a feeding that is not refused
abbrev pub fitting : State → List ℕ → List ℕ → Answer
fitting s i o = cond (nat_lt (read_count s i o) (length i)) NoRoom Done

-- given exactly when
abbrev pub feed_answer : State → Buffers → List ℕ → List ℕ → Answer
feed_answer s p i o = cond (whole_state s) (cond (right_sizes s.displays.core.rows p) (fitting s i o) WrongSize) Broken

abbrev pub feed_as : Answer → ℕ → ℕ → State → Buffers → List ℕ → Feed
feed_as a read replied s p o =
    record { number = number a; result = record { answer = a; read = read; replied = replied; state = s }; buffers = p; reply = o }

-- the first n bytes of the input are read, and their replies stand at the front of the buffer
abbrev pub feed_first : Answer → ℕ → State → Buffers → List ℕ → List ℕ → Feed
feed_first a n s p i o =
    let d = ran (screen s p) (take n i) in
    let out = sent s.displays (take n i) in
    feed_as a n (length out) (record { displays = d.displays; tracked = d.tracked }) d.buffers (sets o 0 out)

-- nothing read, nothing sent, all as it came
abbrev pub feed_refused : Answer → State → Buffers → List ℕ → Feed
feed_refused a s p o = feed_as a 0 0 s p o

-- returned and left. Feeding does not answer 4.
abbrev pub feed_gives : Answer → State → Buffers → List ℕ → List ℕ → Feed
feed_gives Done s p i o = feed_first Done (read_count s i o) s p i o
feed_gives Broken s p i o = feed_refused Broken s p o
feed_gives WrongSize s p i o = feed_refused WrongSize s p o
feed_gives NoRoom s p i o = feed_first NoRoom (read_count s i o) s p i o
feed_gives OffPage s p i o = feed_refused OffPage s p o

-- a state, page and line, the input and a reply buffer
unfoldable pub fed : State → Buffers → List ℕ → List ℕ → Feed
fed s p i o = feed_gives (feed_answer s p i o) s p i o

-- a feeding that reads nothing, sends nothing, and leaves page, line, reply buffer and state as they came
pub record Untouched (s : State) (p : Buffers) (o : List ℕ) (f : Feed) : Type 0 where
  pub read : f.result.read ≡ 0
  pub replied : f.result.replied ≡ 0
  pub state : f.result.state ≡ s
  pub buffers : f.buffers ≡ p
  pub reply : f.reply ≡ o

-- a whole state, and page and line of its size
pub record Taken (s : State) (p : Buffers) : Type 0 where
  pub whole : whole_state s ≡ true
  pub sizes : right_sizes s.displays.core.rows p ≡ true

-- the answer of a feeding that is refused, or else of one that stopped before a reply or did not
abbrev pub feed_answered : Result FedBytes (Refused FedBytes) → Answer
feed_answered (Ok f) = cond f.full NoRoom Done
feed_answered (Err e) = answer_of e.refusal

-- what was returned, and what is left, as the definition has it
abbrev pub feed_told : Result FedBytes (Refused FedBytes) → Buffers → List ℕ → Feed
feed_told r q o = let f = returned r in feed_as (feed_answered r) f.read f.replied f.state q o
