-- Each arm is an answer of the definition.
use Rattle.pankholim.proofs.TextLaws.{leaves-whole}
use Rattle.pankholim.proofs.pankholim_write_text.Goals as goal

pub returns-in-Ok : goal.returns-in-Ok
returns-in-Ok c =
    let a = c.args in
    leaves-whole a.page.now a.out.now _ _ c.write_text.ensures _ c.in-Ok.is
