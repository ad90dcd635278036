-- In a whole state a control sequence in which a parameter that is kept has a subparameter is not heard, unless it is SGR.
use Rattle.std.proofs.Common.{◌≡◌, ℕ, true, false, eqb, leb, List, [], ◌∷◌, arith, ne_eqb, eqb-true, leb-true}
use mathlib.Core.Bool.{false≢true}
use Rattle.parser.specs.declared.parser.Parser.{Parser}
use Rattle.parser.specs.declared.parser.Action.TheVariants.{Nothing}
use Rattle.parser.specs.Params.{joined, param_list, member, none_above}
use Rattle.parser.specs.Families.{is_joined, is_joined_rendition}
use Rattle.parser.specs.Parser.{control_sequence, sequence_action}
use Rattle.parser.specs.WholeParser.{WholeParser}
use Rattle.core_state.specs.declared.Core.{Core}
use Rattle.dispatch.specs.Heard.{heard}
use Rattle.ground.proofs.TestLaws.{either, or_cases, and_left, and_right}

-- what is joined is above every number
above-numbers : (l : List ℕ) → member joined l ≡ true → none_above 9999 l ≡ true → ⊥
above-numbers [] m n = false≢true m
above-numbers (x ∷ xs) m n =
    or_cases (eqb joined x) (member joined xs) m
    (λ e. omega (arith, eqb-true joined x e, leb-true x 9999 (and_left (leb x 9999) (none_above 9999 xs) n)))
    (λ e. above-numbers xs e (and_right (leb x 9999) (none_above 9999 xs) n))

-- a place that is joined shows in the mark
pub joined-shows : (p : Parser) → WholeParser p → member joined (param_list p.params) ≡ true → is_joined p.mark ≡ true
joined-shows p w m =
    either (λ (most : ℕ). none_above most (param_list p.params) ≡ true → is_joined p.mark ≡ true) (is_joined p.mark)
    (λ e _. e) (λ _ small. absurd (above-numbers (param_list p.params) m small)) w.small

-- with 80 more than a mark no function is listed
pub joined-ignored : (c : Core) (mark first second last : ℕ) → is_joined mark ≡ true → heard c (control_sequence mark first second last) ≡ Nothing
joined-ignored c mark first second last j =
    let high = leb-true 0x80 mark j in
    rw (ne_eqb mark 0 (omega arith), ne_eqb mark 0x3F (omega arith), ne_eqb mark 0x3E (omega arith))

pub subparameters-ignored :
    (c : Core) (first second last : ℕ)
    → WholeParser c.parser
    → member joined (param_list c.parser.params) ≡ true
    → is_joined_rendition c.parser.mark first second last ≡ false
    → heard c (sequence_action c.parser.mark first second last) ≡ Nothing
subparameters-ignored c first second last w m n = rw n (joined-ignored c c.parser.mark first second last (joined-shows c.parser w m))
