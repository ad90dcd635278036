-- A full reset is one edit of the line, and any other action none.
use Rattle.std.proofs.Common.{not, eqb, refl, ap, arith}
use Rattle.cells.specs.Cells.{blank}
use Rattle.page.specs.declared.Edit.TheVariants.{FillRange}
use Rattle.page.proofs.KnownRows.{applied-alone}
use Rattle.steps.specs.Steps.{Marked}
use Rattle.steps.proofs.ByteLaws.{first-is}
use Rattle.ground.proofs.Cases.{told}
use Rattle.feeding.proofs.bytes.blank_line.Goals as goal

pub returns-then-resets_all : goal.returns-then-resets_all
returns-then-resets_all c =
    let A = applied-alone c.apply.ensures in
    let is = first-is 1 (FillRange 0 80 blank) c.args.cells.now c.apply.new.page c.apply.result c.requires (omega arith)
    A.page A.marked in
    rw (told c.resets_all.ensures c.if-resets_all.true) (ap (λ (m : Marked). m.page) is, ap (λ (m : Marked). not (eqb m.changed 0)) is)

pub returns-else-resets_all : goal.returns-else-resets_all
returns-else-resets_all c = rw (c.if-resets_all.false, told c.resets_all.ensures c.if-resets_all.false) (refl, refl)
