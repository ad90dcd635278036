-- A graphic character in ground: the parser stays as it is, and the character is printed.
use Rattle.std.proofs.Common.{◌≡◌, ℕ, Bool, true, not, ◌&&◌, leb, sym, ap, ◌∙◌, arith, le-ltb, ne_eqb, leb-true}
use borrow.Author.Tests.{not-true}
use Rattle.parser.specs.declared.phases.Phase.{Phase}
use Rattle.parser.specs.declared.phases.Phase.TheVariants.{Ground}
use Rattle.parser.specs.declared.phases.Op.TheVariants.{Print}
use Rattle.parser.specs.declared.phases.Transition.{Transition}
use Rattle.parser.specs.declared.parser.Parser.{Parser}
use Rattle.parser.specs.declared.parser.Action.TheVariants.{Character}
use Rattle.parser.specs.declared.parser.Decoded.{Decoded}
use Rattle.core_state.specs.declared.Core.{Core}
use Rattle.parser.specs.Parser.{to, transition, in_phase, kept, action_of, decode}
use Rattle.ground.specs.Tests.{between}
use Rattle.vt.specs.Printing.{printed}
use Rattle.dispatch.specs.WrapDue.{clears_wrap}
use Rattle.core_state.specs.Effects.{with_parser}
use Rattle.dispatch.specs.Decide.{executed, decided}
use Rattle.ground.proofs.TestLaws.{and_left, and_right}

-- 20 to 7F and A0 to FF
abbrev pub graphic : ℕ → Bool
graphic b = leb 0x20 b && not (between 0x80 b 0x9F)

ground-rule : (b : ℕ) → graphic b ≡ true → transition Ground b ≡ to Ground Print
unfolding transition
ground-rule b h =
    let l = leb-true 0x20 b (and_left (leb 0x20 b) (not (between 0x80 b 0x9F)) h) in
    let n = not-true (between 0x80 b 0x9F) (and_right (leb 0x20 b) (not (between 0x80 b 0x9F)) h) in
    rw (ne_eqb b 0x18 (omega arith), ne_eqb b 0x1A (omega arith), ne_eqb b 0x1B (omega arith), n, le-ltb b 0x20 l)

pub plain-decode : (s : Parser) (b : ℕ) → s.phase ≡ Ground → graphic b ≡ true → decode s b ≡ record { parser = s; action = Character b }
unfolding decode
plain-decode s b e h =
    ap (λ (t : Transition). record { parser = kept s t.next t.op b; action = action_of s t.op b })
    (ap (λ (p : Phase). transition p b) e ∙ ground-rule b h)
    ∙ ap (λ (p : Phase). record { parser = in_phase p s; action = Character b }) (sym e)

pub plain-decides : (c : Core) (b : ℕ) → c.parser.phase ≡ Ground → graphic b ≡ true → printed c b ≡ decided c b
unfolding decided executed clears_wrap
plain-decides c b e h = sym (ap (λ (d : Decoded). executed (with_parser c d.parser) d.action) (plain-decode c.parser b e h))
