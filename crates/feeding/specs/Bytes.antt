-- What the loop over the input promises: the bytes that are read are done, and their replies stand at the front of the buffer.
use Rattle.std.specs.Prelude.{◌≡◌, ℕ, ◌-◌, ◌<◌, ◌≤◌, Bool, Option, List, length, take, nat_lt, MatchOption}
use Rattle.std.proofs.lemmas.List.Edits.{sets}
use Rattle.ground.specs.Writes.{Wrote}
use Rattle.core_state.specs.declared.Displays.{Displays}
use Rattle.dispatch.specs.Displays.{sends_of}
use Rattle.dispatch.specs.Events.{heeded}
use Rattle.steps.specs.declared.State.{State}
use Rattle.feeding.specs.declared.bytes.Heeded.{Heeded}
use Rattle.feeding.specs.declared.bytes.FedBytes.{FedBytes}
use Rattle.steps.specs.Steps.{Buffers, screen, ran, sent, readable}

-- ---- a byte's reply, where n bytes are in the reply buffer

-- it fits and was sent
pub record Fitted (k : Displays) (b : ℕ) (o : List ℕ) (n n' : ℕ) (o' : List ℕ) : Type 0 where
  pub room : length (sends_of k b) ≤ length o - n
  pub wrote : Wrote o n (sends_of k b) o' n'

-- it does not fit, and nothing was sent
pub record Stopped (k : Displays) (b : ℕ) (o : List ℕ) (n : ℕ) (o' : List ℕ) : Type 0 where
  pub room : length o - n < length (sends_of k b)
  pub reply : o' ≡ o

-- the one or, with what the byte asks for, the other
abbrev pub Answered : Displays → ℕ → List ℕ → ℕ → Option Heeded → List ℕ → Type 0
Answered k b o n r o' = MatchOption r (Stopped k b o n o') (λ h. (h.action ≡ heeded k.core.parser b) × Fitted k b o n h.replied o')

-- ---- the input

-- the result, and what is left in page, line and reply buffer
pub record Feeding : Type 0 where
  pub result : FedBytes
  pub buffers : Buffers
  pub reply : List ℕ

abbrev pub feeding_as : Bool → ℕ → ℕ → State → Buffers → List ℕ → Feeding
feeding_as full read replied s p o = record { result = record { state = s; read = read; replied = replied; full = full }; buffers = p; reply = o }

-- how many bytes are read
abbrev pub read_count : State → List ℕ → List ℕ → ℕ
read_count s i o = readable (length o) s.displays i

-- as many as are read
abbrev pub bytes_fed : State → Buffers → List ℕ → List ℕ → Feeding
bytes_fed s p i o =
    let n = read_count s i o in
    let d = ran (screen s p) (take n i) in
    let out = sent s.displays (take n i) in
    feeding_as (nat_lt n (length i)) n (length out) (record { displays = d.displays; tracked = d.tracked }) d.buffers (sets o 0 out)
