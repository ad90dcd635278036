-- One byte whose step makes at most one edit.
use Rattle.std.proofs.Common.{◌≡◌, ℕ, List, length, sym, refl, ap, ◌∙◌, subst}
use lib.Bits.{bit_or, or_zero_r}
use Rattle.cells.specs.Sets.{bits_of, changed}
use Rattle.cells.proofs.ChangeLaws.{changed-none}
use Rattle.page.specs.declared.Edit.{Edit}
use Rattle.page.specs.declared.Edit.TheVariants.{Keep}
use Rattle.page.specs.Edits.{applied, Within}
use Rattle.page.proofs.EditLaws.{keep-applied, length-applied}
use Rattle.core_state.specs.declared.Core.{Core}
use Rattle.core_state.specs.declared.Decision.{Decision}
use Rattle.core_state.specs.Effects.{one_edit}
use Rattle.dispatch.specs.Decide.{decided}
use Rattle.wholeness.proofs.Sound.{decided-sound}
use Rattle.steps.specs.Steps.{edited_by}
use Rattle.steps.specs.OneDisplay.{edits_of, Quiet}
use Rattle.steps.specs.Ready.{Paged}
use Rattle.steps.proofs.ByteLaws.{edits-are, acts-is}
use Rattle.spans.specs.Spans.{ByteDone}

-- the edit of a byte stays on the page
pub edit-within : (c : Core) (p : List ℕ) (b : ℕ) (c' : Core) (e : Edit) → Paged c p → one_edit c' e ≡ decided c b → Within c.rows e
edit-within c p b c' e k d = subst (λ (x : Decision). Within c.rows x.first) (sym d) (decided-sound c b k.whole).first

pub done-by : (c : Core) (n : ℕ) (p : List ℕ) (b : ℕ) (c' : Core) (e : Edit) (q : List ℕ) (n' : ℕ) → Paged c p → Quiet c b → one_edit c' e ≡ decided c b
    → c'.modes.autowrap ≡ c.modes.autowrap → q ≡ applied c.rows e p → n' ≡ bit_or n (bits_of c.rows (changed p q)) → ByteDone c n p b c' n' q
done-by c n p b c' e q n' k quiet d on eq en =
    let r = c.rows in
    let within = edit-within c p b c' e k d in
    let long : length q ≡ length p = ap length eq ∙ length-applied r e p k.size within ∙ sym k.size in
    let m = bits_of r (changed p q) in
    record {
      quiet = quiet;
      display-is = acts-is c n p b c' q m (ap (λ (x : Decision). x.core) d)
          (ap (λ (i : ℕ). record { page = q; changed = i }) (sym (or_zero_r m))
          ∙ edits-are r (record { first = e; second = Keep }) p q q m 0 k.size within tt eq refl
          (sym (keep-applied r q (long ∙ k.size))) (sym (changed-none r q))
          ∙ ap (λ (x : Decision). edited_by r (edits_of x) p) d)
          n' en;
      autowrap = on;
    }
