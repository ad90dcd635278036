use mathlib.Core.Path.{◌≡◌, refl}
use Prim.Native.Nat.{◌+◌}
use native.Mathlib.Omega.{arith}
use lib.ListN.{length}
use Rattle.text.specs.Text.{lines, text_of}
use Rattle.text.proofs.TextLaws.{text-more-length, text-short}
use Rattle.text.proofs.text_len.Goals as goal
use Rattle.text.proofs.text_len.Goals.{After-line_len-len}

-- the sum of a turn
total : (c : After-line_len-len)
    → c.loop-k.len + c.line_len-len.result ≡ length (text_of (c.loop-k.k + 1) c.args.page.now)
total c =
    rw (text-more-length, ← c.row_of.ensures, ← c.line_len-len.ensures, ← c.loop-k.invariant)

pub loop-k-init : goal.loop-k-init
unfolding lines text_of
loop-k-init c = refl

pub overflow_add-len : goal.overflow_add-len
overflow_add-len c = omega (arith, total (goal.at.overflow_add-len c).After-line_len-len, text-short (c.loop-k.k + 1) c.args.page.now)

pub loop-k-preserved : goal.loop-k-preserved
loop-k-preserved c = total (goal.at.loop-k-preserved c).After-line_len-len
