-- The rows that move and those that blanks enter are two blocks, and together they are the rows from `top` to `end`.
use mathlib.Core.Logic.{inl, inr, ⊎_elim}
use Prim.Native.Nat.{ℕ, ◌+◌, ◌-◌, ◌≤◌, ◌<◌}
use native.Mathlib.Omega.{arith}
use lib.Dec.{leb}
use borrow.Author.Tests.{le-leb, lt-leb}
use Rattle.page.proofs.Blocks.{scrolled}
use Rattle.page.proofs.KnownRows.{over-join}
use Rattle.page.proofs.edits.scroll_down.Goals as goal

pub returns : goal.returns
returns c =
    let top : ℕ = c.args.block.top in
    let end : ℕ = c.args.block.end in
    let n : ℕ = c.args.count in
    over-join c.lower_rows-moved.ensures c.fill_rows.ensures.marked
    (scrolled c.args.block.left c.args.block.right (λ j. j - n) c.lower_rows-moved.ensures.redone
    c.fill_rows.ensures.redone top end (λ j. leb (top + n) j)
    (λ j a b. (omega arith, b, le-leb (top + n) j a))
    (λ j a b. (a, omega arith, lt-leb (top + n) j b, inl b))
    (λ j o o'. ⊎_elim (λ (b : j < top + n). ⊎_elim (λ (d : j < top). inl d) (λ (d : top + n ≤ j). absurd (omega arith)) o') (λ (b : end ≤ j). inr b) o))
