-- The bytes before a place are all text, or they are not.
use mathlib.Core.Path.{◌≡◌}
use lib.ListN.{take}
use Rattle.scrolling.specs.Text.{all_text}
use Rattle.scrolling.proofs.ahead.text_block.Given as goal

abbrev pub invariant-loop-byte : goal.invariant-loop-byte
invariant-loop-byte l = l.text ≡ all_text (take l.byte-index l.block)
