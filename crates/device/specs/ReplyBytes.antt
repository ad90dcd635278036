-- The bytes of each reply (SCOPE 7).
use Rattle.std.specs.Prelude.{Bool, true, false, Option, None, Some, List, [], ◌∷◌, ◌++◌, ℕ}
use Rattle.ground.specs.Decimals.{decimal}
use Rattle.device.specs.declared.sending.Reply.{Reply}
use Rattle.device.specs.declared.sending.Reply.TheVariants.{PrimaryAttributes, SecondaryAttributes, Status, Position, ExtendedPosition, Printer}

-- CSI: 9B with 8-bit replies, else 1B 5B
abbrev pub csi : Bool → List ℕ
csi true = 0x9B ∷ []
csi false = 0x1B ∷ 0x5B ∷ []

-- after CSI: ?64;6c  >41;1;0c  0n  row;columnR  ?row;column;1R  ?13n
abbrev pub body_of : Reply → List ℕ
body_of PrimaryAttributes = 0x3F ∷ 0x36 ∷ 0x34 ∷ 0x3B ∷ 0x36 ∷ 0x63 ∷ []
body_of SecondaryAttributes = 0x3E ∷ 0x34 ∷ 0x31 ∷ 0x3B ∷ 0x31 ∷ 0x3B ∷ 0x30 ∷ 0x63 ∷ []
body_of Status = 0x30 ∷ 0x6E ∷ []
body_of (Position r c) = decimal r ++ (0x3B ∷ []) ++ decimal c ++ (0x52 ∷ [])
body_of (ExtendedPosition r c) = (0x3F ∷ []) ++ decimal r ++ (0x3B ∷ []) ++ decimal c ++ (0x3B ∷ 0x31 ∷ 0x52 ∷ [])
body_of Printer = 0x3F ∷ 0x31 ∷ 0x33 ∷ 0x6E ∷ []

-- of no reply there are none
unfoldable pub reply_bytes : Bool → Option Reply → List ℕ
reply_bytes eightbit None = []
reply_bytes eightbit (Some r) = csi eightbit ++ body_of r
