use mathlib.Core.Path.{◌≡◌, refl}
use native.Mathlib.Omega.{arith}
use Rattle.ground.proofs.Cases.{told}
use Rattle.cells.proofs.Putting.{put-more, put-stopped}
use Rattle.cells.proofs.runs.put_characters.Goals as goal

pub returns-then-not-is_character : goal.returns-then-not-is_character
returns-then-not-is_character c =
    let a = c.args in
    let put = c.loop-k.invariant a.page.now (omega arith) c.put_plain-plain.ensures.1 in
    let other = told c.is_character.ensures (c.if-not-is_character.true) in
    record {
      most = omega arith;
      characters = put.characters;
      pasted = put.pasted;
      some = λ m. put-stopped a.input.now a.from c.loop-k.k other;
    }

pub loop-k-preserved : goal.loop-k-preserved
loop-k-preserved c =
    let is = told c.is_character.ensures (c.if-not-is_character.false) in
    λ p h P. put-more (c.loop-k.invariant p h P) _ _ (omega arith) (omega arith) is c.pen_word-word.ensures refl

pub returns : goal.returns
returns c =
    let a = c.args in
    let end : c.loop-k.k ≡ a.most = omega arith in
    let put = rw end at (c.loop-k.invariant a.page.now (omega arith) c.put_plain-plain.ensures.1) in
    record { most = omega arith; characters = put.characters; pasted = put.pasted; some = λ m is. m }
