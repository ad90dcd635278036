-- The bytes are plain, so their words are those of the pen, and the block is pasted.
use mathlib.Core.Path.{◌≡◌}
use native.Mathlib.Omega.{arith}
use lib.ListN.{length}
use borrow.Author.Rules.{rules}
use Rattle.cells.proofs.Putting.{put-block}
use Rattle.cells.proofs.runs.put_block.Goals as goal

pub returns : goal.returns
returns g c =
    let pre = c.requires in
    let long : length c.block_words-words.result ≡ g.row.N = search rules in
    put-block _ pre.2 (omega arith) pre.1 pre.3 c.block_words-words.ensures (c.paste_words.ensures _ (omega arith) (λ k w l e. search rules))
