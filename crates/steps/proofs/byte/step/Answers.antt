-- What is decoded is executed, and its edits are those of the definition.
use Rattle.std.proofs.Common.{◌≡◌, ℕ, refl, ap, ◌∙◌, arith}
use lib.Bits.{bit_or}
use Rattle.cells.specs.Sets.{bits_of, changed}
use Rattle.cells.proofs.BitLaws.{bit-or-assoc}
use Rattle.parser.specs.declared.parser.Decoded.{Decoded}
use Rattle.parser.specs.Parser.{decode}
use Rattle.core_state.specs.declared.Core.{Core}
use Rattle.core_state.specs.declared.Decision.{Decision}
use Rattle.core_state.specs.Effects.{with_parser}
use Rattle.dispatch.specs.Decide.{executed, decided}
use Rattle.wholeness.proofs.Sound.{decided-sound}
use Rattle.steps.specs.Steps.{edited_by}
use Rattle.steps.specs.OneDisplay.{edits_of}
use Rattle.steps.proofs.ByteLaws.{edits-are, acts-is}
use Rattle.steps.proofs.byte.step.Goals as goal
use Rattle.steps.proofs.byte.step.Goals.{After-execute-decision}

decides : (c : Core) (b : ℕ) (d : Decoded) (x : Decision) → d ≡ decode c.parser b → x ≡ executed (with_parser c d.parser) d.action → x ≡ decided c b
unfolding decided
decides c b d x ed ex = ex ∙ ap (λ (y : Decoded). executed (with_parser c y.parser) y.action) ed

is-decided : (c : After-execute-decision) → c.execute-decision.result ≡ decided c.args.core c.args.byte
is-decided c = decides c.args.core c.args.byte c.args.decoded c.execute-decision.result c.requires.1 c.execute-decision.ensures

pub apply-one-requires : goal.apply-one-requires
apply-one-requires c =
    let w = c.requires.0.whole in
    record {
      long = c.requires.0.size;
      few = omega (arith, w.parts.bounds.count.high);
      within = rw (is-decided (goal.at.apply-one-requires c).After-execute-decision) (decided-sound c.args.core c.args.byte w).first;
    }

pub apply-requires : goal.apply-requires
apply-requires c =
    let w = c.requires.0.whole in
    record {
      long = c.apply-one.auto.page ∙ c.requires.0.size;
      few = omega (arith, w.parts.bounds.count.high);
      within = rw (is-decided (goal.at.apply-requires c).After-execute-decision) (decided-sound c.args.core c.args.byte w).second;
    }

pub returns : goal.returns
returns c =
    let core = c.args.core in
    let page = c.args.page.now in
    let x = c.execute-decision.result in
    let is = is-decided (goal.at.returns c).After-execute-decision in
    let s = decided-sound core c.args.byte c.requires.0.whole in
    let p1 = c.apply-one.new.page in
    let p2 = c.apply.new.page in
    let m1 = bits_of core.rows (changed page p1) in
    let m2 = bits_of core.rows (changed p1 p2) in
    acts-is core c.args.changed page c.args.byte x.core p2 (bit_or m1 m2) (ap (λ (y : Decision). y.core) is)
    (edits-are core.rows (edits_of x) page p1 p2 m1 m2 c.requires.0.size (rw is s.first) (rw is s.second)
    c.apply-one.ensures.page refl c.apply.ensures.page refl
    ∙ ap (λ (y : Decision). edited_by core.rows (edits_of y) page) is)
    c.apply.result
    (c.apply.ensures.marked ∙ ap (λ (n : ℕ). bit_or n m2) c.apply-one.ensures.marked ∙ bit-or-assoc c.args.changed m1 m2)
