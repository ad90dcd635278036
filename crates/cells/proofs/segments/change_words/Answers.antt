-- The word that is stored is made of the one that stood there.
use mathlib.Core.List.{map}
use native.Mathlib.Omega.{arith}
use borrow.Author.Rules.{rules}
use Prim.Native.Nat.{◌<◌}
use lib.ListN.{length, length-drop, length-map, drop}
use lib.Seq.{get_or-drop}
use Rattle.std.proofs.lemmas.List.{get_or-map}
use Rattle.cells.specs.Cells.{changed_by}
use Rattle.cells.proofs.segments.change_words.Goals as goal

pub returns : goal.returns
returns c =
    let a = c.args in
    c.paste_words.ensures (map (changed_by a.change) (drop a.to a.page.now)) (simp (length-map, length-drop) (omega arith))
    (λ k w l e. let has : k < length (drop a.to a.page.now) = simp length-drop (omega arith) in rw (get_or-map (changed_by a.change) (drop a.to a.page.now) k 0 0 has, get_or-drop) (search rules))
