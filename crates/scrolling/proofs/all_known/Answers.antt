-- A number of so many ones is kept by `&` exactly if each of its rows is there.
use mathlib.Core.Path.{◌≡◌, ◌∙◌}
use Prim.Native.Nat.{ℕ, ◌-◌, ◌*◌, ◌%◌, ◌^◌, ◌<◌}
use native.Mathlib.Nat.{one-mul}
use native.Mathlib.Omega.{arith}
use lib.Dec.{lit<}
use lib.Pow.{pow_pos, shl_exact}
use Rattle.scrolling.proofs.KnownLaws.{known-test}
use Rattle.scrolling.proofs.all_known.Goals as goal

-- a one that is shifted by less than 64 places
mask : (k : ℕ) → k < 64 → (1 * 2 ^ k) % 2 ^ 64 ≡ 2 ^ k
mask k h = shl_exact 1 k 64 (lit< tt) (omega arith) ∙ one-mul (2 ^ k)

pub overflow_sub-rows-2 : goal.overflow_sub-rows-2
overflow_sub-rows-2 c = let one = mask (c.args.end - c.args.top) (omega arith) in omega (arith, pow_pos (c.args.end - c.args.top))

pub returns : goal.returns
returns c = rw (mask (c.args.end - c.args.top) (omega arith)) (known-test c.args.known c.args.top (c.args.end - c.args.top))
