use Rattle.std.proofs.Common.{◌≡◌, ℕ, eqb, List, [], ◌∷◌, refl, eqb-true}
use Rattle.std.proofs.lemmas.List.{drop_all}
use Rattle.parser.specs.Params.{joined, numbers}
use Rattle.cells.specs.declared.Rendition.{Rendition}
use Rattle.ground.proofs.TestLaws.{either}
use Rattle.ground.specs.Folds.{folded}
use Rattle.csi.specs.Sequences.{rendered}
use Rattle.csi.proofs.modes.rendition_after.Goals as goal

joined-renders : (r : Rendition) → rendered r joined ≡ r
unfolding rendered
joined-renders r = refl

numbers-render : (vs : List ℕ) (r : Rendition) → folded rendered r (numbers vs) ≡ folded rendered r vs
numbers-render [] r = refl
numbers-render (v ∷ vs) r =
    either (λ (l : List ℕ). folded rendered r l ≡ folded rendered (rendered r v) vs) (eqb v joined)
    (λ e. rw (eqb-true v joined e, joined-renders r) (numbers-render vs r))
    (λ _. numbers-render vs (rendered r v))

pub returns : goal.returns
returns c =
    let end = drop_all _ _ c.loop-value-test.false in
    rw (numbers-render, ← c.count.ensures) (rw end at c.loop-value.invariant)
