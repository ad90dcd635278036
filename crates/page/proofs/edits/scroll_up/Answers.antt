-- The rows that move and those that blanks enter are two blocks, and together they are the rows from `top` to `end`.
use mathlib.Core.Logic.{inl, inr, ⊎_elim}
use Prim.Native.Nat.{ℕ, ◌+◌, ◌-◌, ◌≤◌, ◌<◌}
use native.Mathlib.Omega.{arith}
use lib.Dec.{ltb}
use borrow.Author.Tests.{lt-ltb, le-ltb}
use Rattle.page.proofs.Blocks.{scrolled}
use Rattle.page.proofs.KnownRows.{over-join}
use Rattle.page.proofs.edits.scroll_up.Goals as goal

pub returns : goal.returns
returns c =
    let top : ℕ = c.args.block.top in
    let end : ℕ = c.args.block.end in
    let n : ℕ = c.args.count in
    over-join c.raise_rows-moved.ensures c.fill_rows.ensures.marked
    (scrolled c.args.block.left c.args.block.right (λ j. j + n) c.raise_rows-moved.ensures.redone
    c.fill_rows.ensures.redone top end (λ j. ltb (j + n) end)
    (λ j a b. (a, omega arith, lt-ltb (j + n) end (omega arith)))
    (λ j a b. (omega arith, b, le-ltb (j + n) end (omega arith), inr a))
    (λ j o o'. ⊎_elim (λ (b : j < top). inl b) (λ (b : end - n ≤ j). ⊎_elim (λ (d : j < end - n). absurd (omega arith)) (λ (d : end ≤ j). inr d) o') o))
