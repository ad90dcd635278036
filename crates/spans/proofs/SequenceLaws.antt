-- The end of a control sequence with no mark and no intermediate: what is decoded of it, and SGR.
use Rattle.std.proofs.Common.{◌≡◌, ℕ, ◌≤◌, true, eqb, List, sym, refl, ap, ◌∙◌, arith, eqb-true}
use lib.Bits.{bit_or, or_zero_r}
use Rattle.ground.specs.Folds.{folded}
use Rattle.ground.proofs.TestLaws.{and_left, and_right}
use Rattle.cells.proofs.ChangeLaws.{changed-none}
use Rattle.page.specs.declared.Edit.TheVariants.{Keep}
use Rattle.page.proofs.EditLaws.{keep-applied}
use Rattle.parser.specs.declared.phases.Phase.TheVariants.{Ground}
use Rattle.parser.specs.declared.parser.Parser.{Parser}
use Rattle.parser.specs.Params.{param_list, numbers}
use Rattle.parser.specs.Phases.{takes_parameters}
use Rattle.parser.specs.Parser.{in_phase, control_sequence, decode}
use Rattle.core_state.specs.declared.Core.{Core}
use Rattle.core_state.specs.Effects.{with_rendition, with_parser}
use Rattle.csi.specs.Sequences.{rendered}
use Rattle.dispatch.proofs.TouchLaws.{final-decode, rendition-executes}
use Rattle.steps.specs.Ready.{Paged}
use Rattle.spans.specs.Spans.{ByteDone}
use Rattle.spans.specs.Parts.{in_plain_sequence}
use Rattle.spans.proofs.ActionLaws.{action-done}

-- what is decoded
pub final-read : (s : Parser) (b : ℕ) → in_plain_sequence s ≡ true → 0x40 ≤ b → b ≤ 0x7E
    → decode s b ≡ record { parser = in_phase Ground s; action = control_sequence 0 0 0 b }
final-read s b h =
    final-decode s b (and_left (takes_parameters s.phase) (eqb s.mark 0) h)
    (eqb-true s.mark 0 (and_right (takes_parameters s.phase) (eqb s.mark 0) h))

-- SGR moves the rendition alone
pub rendition-done : (c : Core) (n : ℕ) (p : List ℕ) → Paged c p → in_plain_sequence c.parser ≡ true
    → ByteDone c n p 0x6D (with_rendition (with_parser c (in_phase Ground c.parser)) (folded rendered c.rendition (numbers (param_list c.parser.params)))) n p
rendition-done c n p P h =
    let s : Parser = in_phase Ground c.parser in
    action-done c p 0x6D s (control_sequence 0 0 0 0x6D) _ Keep P (final-read c.parser 0x6D h (omega arith) (omega arith))
    (sym (rendition-executes (with_parser c s))) n p n refl refl
    (sym (keep-applied c.rows p P.size)) (sym (ap (bit_or n) (changed-none c.rows p) ∙ or_zero_r n))
