-- The words are those of the characters, one after the other.
use Rattle.std.proofs.Common.{ℕ, ◌+◌, arith, map, rules}
use lib.ListN.{length-map}
use Rattle.std.proofs.lemmas.List.{get_or-map}
use Rattle.inplace.proofs.put_ascii.Goals as goal

pub returns : goal.returns
returns c =
    let a = c.args in
    c.paste_words.ensures (map (λ (b : ℕ). a.base + b) a.input.now) (omega (arith, length-map a.input.now (λ (b : ℕ). a.base + b)))
    (λ k w l e. rw (get_or-map (λ (b : ℕ). a.base + b) a.input.now k 0 0 (omega arith)) (search rules))
