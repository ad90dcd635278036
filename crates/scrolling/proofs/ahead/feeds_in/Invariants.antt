-- The line feeds before a place are counted.
use mathlib.Core.Path.{◌≡◌}
use Prim.Native.Nat.{◌≤◌}
use lib.ListN.{take}
use Rattle.scrolling.specs.Text.{feeds_of}
use Rattle.scrolling.proofs.ahead.feeds_in.Given as goal

abbrev pub invariant-loop-byte : goal.invariant-loop-byte
invariant-loop-byte l = (l.feeds ≤ l.byte-index) × (l.feeds ≡ feeds_of (take l.byte-index l.block))
