-- What clears wrap due is what is listed and is none of the keepers.
use Rattle.std.proofs.Common.{◌≡◌, ℕ, zero, suc, ◌<◌, Bool, true, false, cond, not, ◌&&◌, ◌||◌, sym, refl, ◌∙◌, arith, ne_eqb}
use mathlib.Core.Bool.{and-false, and-true, or-false}
use borrow.Author.Tests.{not-true}
use Rattle.parser.specs.declared.parser.Action.{Action}
use Rattle.parser.specs.declared.parser.Action.TheVariants.{Nothing}
use Rattle.core_state.specs.declared.Core.{Core}
use Rattle.parser.specs.Params.{member}
use Rattle.parser.specs.Families.{is_protection, is_soft_reset, is_dollar, is_extent}
use Rattle.ground.proofs.TestLaws.{and_left, and_right, at-number}
use Rattle.dispatch.specs.Heard.{dollar_finals, is_secondary, listed_rest, is_listed, is_ignored}
use Rattle.dispatch.specs.WrapDue.{other_keeps, keeps_wrap, clears_wrap}

-- ---- two tests that agree at each number below n

abbrev same : Bool → Bool → Bool
same true b = b
same false b = not b

same-is : (a b : Bool) → same a b ≡ true → a ≡ b
same-is true b e = sym e
same-is false b e = sym (not-true b e)

abbrev pub alike : (ℕ → Bool) → (ℕ → Bool) → ℕ → Bool
alike f g zero = true
alike f g (suc n) = same (f n) (g n) && alike f g n

pub alike_at : (f g : ℕ → Bool) (n : ℕ) → alike f g n ≡ true → (b : ℕ) → b < n → f b ≡ g b
alike_at f g zero e b h = absurd (omega arith)
alike_at f g (suc n) e b h =
    at-number (λ (k : ℕ). f k ≡ g k) b n (same-is (f n) (g n) (and_left (same (f n) (g n)) (alike f g n) e))
    (λ u. alike_at f g n (and_right (same (f n) (g n)) (alike f g n) e) b (omega arith))

-- ---- the families

-- of those that are neither plain nor private, only ! p clears it
pub others_clear : (mark first second last : ℕ) → is_soft_reset mark first second last
    ≡ ((is_secondary mark first second last || listed_rest mark first second last) && not (other_keeps mark first second last))
others_clear mark first second last =
    at-number P first 0x21 (simp (and-false, and-true, or-false))
    (λ n. rw (ne_eqb first 0x21 n) (simp and-false
    (go (is_secondary mark first second last) (is_protection mark first second last) (is_dollar mark first second) (is_extent mark first second last))))
  where
    P : ℕ → Type 0
    P x = is_soft_reset mark x second last ≡ ((is_secondary mark x second last || listed_rest mark x second last) && not (other_keeps mark x second last))

    go : (s p x e : Bool) → false ≡ ((s || (p || ((x && member last dollar_finals) || e))) && not ((s || p) || (x || e)))
    go true p x e = refl
    go false true x e = refl
    go false false true e = simp and-false
    go false false false true = refl
    go false false false false = refl

pub reset-clears : (mark first second last : ℕ) → is_soft_reset mark first second last ≡ true → not (other_keeps mark first second last) ≡ true
reset-clears mark first second last e =
    and_right (is_secondary mark first second last || listed_rest mark first second last) (not (other_keeps mark first second last))
    (sym (others_clear mark first second last) ∙ e)

-- ---- the policy, of what is not ignored

pub clears_listed : (c : Core) (a : Action) → is_ignored c a ≡ false → clears_wrap c a ≡ (is_listed a && not (keeps_wrap c a))
unfolding clears_wrap
clears_listed c a e = rw e (go (is_listed a))
  where
    go : (t : Bool) → not (keeps_wrap c (cond (t && true) a Nothing)) ≡ (t && not (keeps_wrap c a))
    go true = refl
    go false = refl
