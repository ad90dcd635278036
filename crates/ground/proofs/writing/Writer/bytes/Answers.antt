-- A part that is copied over is as many bytes set.
use Rattle.std.proofs.Common.{◌≡◌, ◌+◌, ◌-◌, length, refl, arith}
use Rattle.ground.proofs.WriteLaws.{wrote-over}
use Rattle.ground.proofs.writing.Writer.bytes.Goals as goal

pub returns : goal.returns
returns c =
    let w = c.args.self.now in
    let n : w.len + length c.args.bytes.now - w.len ≡ length c.args.bytes.now = omega arith in
    rw (n, c.copy_from_slice.ensures.after) (record { same = refl; wrote = wrote-over w.bytes.now w.len c.args.bytes.now c.requires })
