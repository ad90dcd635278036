use mathlib.Core.Path.{◌≡◌, refl, ap, ap₂, ◌∙◌}
use mathlib.Core.List.{List}
use mathlib.Core.Logic.{inl}
use Prim.Native.Nat.{ℕ, ◌+◌, ◌-◌}
use native.Mathlib.Omega.{arith}
use Rattle.cells.specs.Rows.{row}
use Rattle.page.specs.Edits.{overlaid_from}
use Rattle.page.proofs.Blocks.{block_none, block_same, block-down, block-all, block-old}
use Rattle.page.proofs.KnownRows.{over-join, over-same}
use Rattle.cells.proofs.Differing.{paste-self}
use Rattle.page.proofs.rows.lower_rows.Goals as goal

pub loop-k-preserved : goal.loop-k-preserved
loop-k-preserved c =
    let a = c.args in
    let O = c.loop-k.invariant.2 in
    let R = O.redone in
    let k : ℕ = c.loop-k.k - 1 in
    let up : ℕ = k - (a.count - 1 + 1) in
    let from : up ≡ k - a.count = omega arith in (
      omega arith,
      omega arith,
      over-join O c.lower_row-bits.ensures.marked
          (block-down {f = λ j. overlaid_from (row c.loop-k.page j) a.block.left a.block.right (row c.loop-k.page up) a.column} R
          c.lower_row-bits.ensures.redone
          (ap₂ (λ (x y : List ℕ). overlaid_from x a.block.left a.block.right y a.column) (block-old R k (inl (omega arith)))
          (block-old R up (inl (omega arith)) ∙ ap (row a.page.now) from))
          (omega arith) c.loop-k.invariant.1),
    )

pub returns-else-count-gt0 : goal.returns-else-count-gt0
returns-else-count-gt0 c =
    let a = c.args in
    let p = a.page.now in
    let same : (j : ℕ) → j - a.count ≡ j = λ j. omega arith in
    over-same (block_same p _ _ _ (λ j. ap₂ (λ (i x : ℕ). overlaid_from (row p j) a.block.left a.block.right (row p i) x) (same j) (c.requires.3 (omega arith))
    ∙ paste-self (row p j) a.block.left (a.block.right - a.block.left)))

pub loop-k-init : goal.loop-k-init
loop-k-init c = search (block_none, over-same, arith)

pub returns-after-loop-k : goal.returns-after-loop-k
returns-after-loop-k c = let O = c.loop-k.invariant.2 in record { redone = block-all O.redone (omega arith) refl; marked = O.marked }
