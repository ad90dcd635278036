-- Each arm calls the function of its edit, whose rows are those of the definition, for any page. What the edit's place asks, its numbers have.
use mathlib.Core.Path.{◌≡◌, refl, subst}
use mathlib.Core.List.{List}
use Prim.Native.Nat.{ℕ}
use native.Mathlib.Omega.{arith}
use Rattle.page.specs.declared.Edit.{Edit}
use Rattle.page.specs.Writes.{Fits}
use Rattle.page.proofs.Blocks.{block-edited}
use Rattle.page.proofs.KnownRows.{keep-over, over-applied, edited-over}
use Rattle.page.proofs.edits.change.Goals as goal

-- the edit that an arm found
fits : {n : ℕ} {e d : Edit} {p : List ℕ} → Fits n e p → e ≡ d → Fits n d p
fits {n} {e} {d} {p} F i = subst (λ (x : Edit). Fits n x p) i F

pub put-requires : goal.put-requires
put-requires c = let F = fits c.requires c.in-Put.is in omega arith

pub insert_cells-requires : goal.insert_cells-requires
insert_cells-requires c = let F = fits c.requires c.in-InsertCells.is in omega arith

pub delete_cells-requires : goal.delete_cells-requires
delete_cells-requires c = let F = fits c.requires c.in-DeleteCells.is in omega arith

pub scroll_up-requires : goal.scroll_up-requires
scroll_up-requires c = let F = fits c.requires c.in-ScrollUp.is in rw c.new.ensures (omega arith)

pub scroll_down-requires : goal.scroll_down-requires
scroll_down-requires c = let F = fits c.requires c.in-ScrollDown.is in rw c.new-in-ScrollDown.ensures (omega arith)

pub fill_range-requires : goal.fill_range-requires
fill_range-requires c = let F = fits c.requires c.in-FillRange.is in omega arith

pub change_range-requires : goal.change_range-requires
change_range-requires c = let F = fits c.requires c.in-ChangeRange.is in omega arith

pub fill_rows-requires : goal.fill_rows-requires
fill_rows-requires c = let F = fits c.requires c.in-FillRectangle.is in rw c.new-in-FillRectangle.ensures (omega arith)

pub change_rows-requires : goal.change_rows-requires
change_rows-requires c = let F = fits c.requires c.in-ChangeRectangle.is in rw c.new-in-ChangeRectangle.ensures (omega arith)

pub copy_rectangle-requires : goal.copy_rectangle-requires
copy_rectangle-requires c = let F = fits c.requires c.in-CopyRectangle.is in rw c.new-in-CopyRectangle.ensures (omega arith)

pub returns-in-Keep : goal.returns-in-Keep
returns-in-Keep c = keep-over c.requires c.in-Keep.is

pub returns-in-Put : goal.returns-in-Put
returns-in-Put c = search edited-over

pub returns-in-InsertCells : goal.returns-in-InsertCells
returns-in-InsertCells c = search edited-over

pub returns-in-DeleteCells : goal.returns-in-DeleteCells
returns-in-DeleteCells c = search edited-over

pub returns-in-ScrollUp : goal.returns-in-ScrollUp
returns-in-ScrollUp c = over-applied c.requires c.in-ScrollUp.is (rw c.new.ensures at c.scroll_up.ensures)

pub returns-in-ScrollDown : goal.returns-in-ScrollDown
returns-in-ScrollDown c = over-applied c.requires c.in-ScrollDown.is (rw c.new-in-ScrollDown.ensures at c.scroll_down.ensures)

pub returns-in-FillRange : goal.returns-in-FillRange
returns-in-FillRange c = search over-applied

pub returns-in-ChangeRange : goal.returns-in-ChangeRange
returns-in-ChangeRange c = search edited-over

pub returns-in-FillRectangle : goal.returns-in-FillRectangle
returns-in-FillRectangle c =
    let O = rw c.new-in-FillRectangle.ensures at c.fill_rows.ensures in
    over-applied c.requires c.in-FillRectangle.is (record { redone = block-edited O.redone _ (λ j l h. refl); marked = O.marked })

pub returns-in-ChangeRectangle : goal.returns-in-ChangeRectangle
returns-in-ChangeRectangle c = edited-over c.requires c.in-ChangeRectangle.is (block-edited (rw c.new-in-ChangeRectangle.ensures at c.change_rows.ensures) _ (λ j l h. refl))

pub returns-in-CopyRectangle : goal.returns-in-CopyRectangle
returns-in-CopyRectangle c = edited-over c.requires c.in-CopyRectangle.is (rw c.new-in-CopyRectangle.ensures at c.copy_rectangle.ensures)
