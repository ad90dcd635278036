-- One of eight flags is set exactly if their byte is not 0.
use borrow.Author.Rules.{rules}
use lib.ListN.{get_or}
use mir.Val.{Fits}
use mir.Syntax.{w8}
use Prim.Native.Nat.{◌/◌}
use Rattle.device.proofs.TabSearchLaws.{eight-any}
use Rattle.device.proofs.tabs.Tabs.any.Goals as goal

pub returns : goal.returns
returns c =
    let tabs = c.args.self in
    let column = c.args.column in
    let h : Fits w8 (get_or tabs.flags (column / 8) 0) = search rules in
    eight-any tabs column c.requires.1 h.fits
