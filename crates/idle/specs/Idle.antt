-- Bytes that only move the parser.
use Rattle.std.specs.Prelude.{◌≡◌, Bool, not, cond, ◌&&◌, ◌||◌, List, [], ◌∷◌, ℕ, ◌+◌, ◌≤◌, eqb, ltb, length}
use Rattle.parser.specs.declared.phases.Phase.{Phase}
use Rattle.parser.specs.declared.phases.Phase.TheVariants.{Escape, CsiEntry}
use Rattle.parser.specs.declared.params.Params.{Params}
use Rattle.parser.specs.declared.parser.Parser.{Parser}
use Rattle.parser.specs.declared.parser.Action.TheVariants.{Nothing}
use Rattle.idle.specs.declared.Idle.{Idle}
use Rattle.parser.specs.Params.{opened, with_joined, with_next}
use Rattle.parser.specs.Phases.{is_phase}
use Rattle.parser.specs.Parser.{opens_string, cleared, decode}
use Rattle.ground.specs.Tests.{between}
use Rattle.ground.specs.Spans.{span}

-- the parser after bytes
unfoldable pub parsed : Parser → List ℕ → Parser
parsed s [] = s
parsed s (b ∷ bs) = parsed (decode s b).parser bs

-- each of them asks for nothing
unfoldable pub AllIdle : Parser → List ℕ → Type 0
AllIdle s [] = Unit {0}
AllIdle s (b ∷ bs) = ((decode s b).action ≡ Nothing) × AllIdle (decode s b).parser bs

-- a digit, 3A or 3B
abbrev pub is_parameter : ℕ → Bool
is_parameter b = between 0x30 b 0x3B

-- 3C to 3F, the private mark
abbrev pub is_mark : ℕ → Bool
is_mark b = between 0x3C b 0x3F

-- a parameter's byte; and the private mark, as first byte of a control sequence
abbrev pub gathers : Phase → ℕ → Bool
gathers p b = is_parameter b || (is_mark b && is_phase CsiEntry p)

-- what opens a string, as one byte or after ESC
abbrev pub opens : Phase → ℕ → Bool
opens p b = cond (ltb b 0x80) (is_phase Escape p && opens_string (b + 0x40)) (opens_string b)

-- the parser right after CSI, or as it was
abbrev pub begun : Bool → Parser → Parser
begun fresh s = cond fresh (cleared CsiEntry) s

-- the text of a string: all but CAN, SUB, ESC and 80 to 9F
abbrev pub is_text : ℕ → Bool
is_text b = not ((eqb b 0x18 || eqb b 0x1A) || (eqb b 0x1B || between 0x80 b 0x9F))

-- the values and the separators after 3A or 3B
abbrev pub Separated : List ℕ → List ℕ → ℕ → ℕ → ℕ → Type 0
Separated old new n b r =
    let q : Params = record { separators = n; values = old } in
    let after : Params = record { separators = r; values = new } in
    after ≡ with_next (with_joined q b) (opened b)

-- bytes of an input that only moved the parser
pub record Skipped (s : Parser) (input : List ℕ) (from : ℕ) (r : Idle) : Type 0 where
  pub start : from ≤ r.next
  pub end : r.next ≤ length input
  pub parser-is : r.parser ≡ parsed s (span input from r.next)
  pub idle : AllIdle s (span input from r.next)

-- up to a place there is CSI, or nothing
unfoldable pub AfterCsi : List ℕ → ℕ → ℕ → Type 0
AfterCsi input from to = (s : Parser) → Skipped s input from (record { parser = begun (ltb from to) s; next = to })
