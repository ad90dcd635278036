-- How long a reply is.
use mathlib.Core.Path.{◌≡◌}
use Rattle.std.specs.Prelude.{Option, None, Some}
use mathlib.Core.Bool.{Bool, true, false}
use mathlib.Core.List.{[], ◌∷◌, ◌++◌}
use Prim.Native.Nat.{ℕ, ◌+◌, ◌≤◌, ◌<◌}
use native.Mathlib.Omega.{arith}
use lib.ListN.{length, length-append}
use Rattle.device.specs.declared.sending.Reply.{Reply}
use Rattle.device.specs.declared.sending.Reply.TheVariants.{PrimaryAttributes, SecondaryAttributes, Status, Position, ExtendedPosition, Printer}
use Rattle.ground.specs.Decimals.{decimal}
use Rattle.device.specs.ReplyBytes.{csi, body_of, reply_bytes}
use Rattle.ground.proofs.DecimalLaws.{decimal-length}

-- ---- lengths

pub csi-short : (e : Bool) → length (csi e) ≤ 2
csi-short true = omega arith
csi-short false = omega arith

pub place-length : (r c : ℕ) → length (decimal r ++ (0x3B ∷ []) ++ decimal c) ≡ length (decimal r) + length (decimal c) + 1
place-length r c = simp length-append (omega arith)

pub position-length : (r c : ℕ) → length (body_of (Position r c)) ≡ length (decimal r) + length (decimal c) + 2
position-length r c = simp length-append (omega arith)

pub extended-length : (r c : ℕ) → length (body_of (ExtendedPosition r c)) ≡ length (decimal r) + length (decimal c) + 5
extended-length r c = simp length-append (omega arith)

-- ---- the longest reply, where row and column are below 100

abbrev pub TwoDigits : Option Reply → Type 0
TwoDigits None = Unit {0}
TwoDigits (Some PrimaryAttributes) = Unit {0}
TwoDigits (Some SecondaryAttributes) = Unit {0}
TwoDigits (Some Status) = Unit {0}
TwoDigits (Some (Position r c)) = (r < 100) × (c < 100)
TwoDigits (Some (ExtendedPosition r c)) = (r < 100) × (c < 100)
TwoDigits (Some Printer) = Unit {0}

two_digits : (n : ℕ) → n < 100 → length (decimal n) ≤ 2
two_digits n h = (decimal-length n 2 (omega arith)).1 h

body-short : (r : Reply) → TwoDigits (Some r) → length (body_of r) ≤ 9
body-short PrimaryAttributes h = omega arith
body-short SecondaryAttributes h = omega arith
body-short Status h = omega arith
body-short (Position r c) h = omega (arith, position-length r c, two_digits r h.0, two_digits c h.1)
body-short (ExtendedPosition r c) h = omega (arith, extended-length r c, two_digits r h.0, two_digits c h.1)
body-short Printer h = omega arith

pub reply-short : (e : Bool) (r : Option Reply) → TwoDigits r → length (reply_bytes e r) ≤ 11
unfolding reply_bytes
reply-short e None h = omega arith
reply-short e (Some r) h = omega (arith, length-append (csi e) (body_of r), csi-short e, body-short r h)
