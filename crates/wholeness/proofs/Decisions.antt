-- What is shown of each function: its core is whole but for wrap due, its edits stay on the page.
use Rattle.std.proofs.Common.{◌≡◌, ℕ, Bool, true, false, cond, refl}
use Rattle.page.specs.declared.Edit.{Edit}
use Rattle.page.specs.Edits.{Within}
use Rattle.core_state.specs.declared.Core.{Core}
use Rattle.core_state.specs.declared.Decision.{Decision}
use Rattle.core_state.specs.Whole.{Parts, WrapOf, Whole}
use Rattle.dispatch.specs.WrapDue.{with_wrap_policy}
use Rattle.core_state.specs.Effects.{one_edit, unedited}
use Rattle.ground.proofs.TestLaws.{either}
use Rattle.wholeness.proofs.Wholeness.{no_wrap}

-- where `t` says that the policy does not clear wrap due, it is held as it is
pub record Good (r : ℕ) (t : Bool) (d : Decision) : Type 0 where
  pub rows : d.core.rows ≡ r
  pub parts : Parts d.core
  pub wrap : t ≡ false → WrapOf d.core
  pub first : Within r d.first
  pub second : Within r d.second

-- a decision's core is whole and has its rows, and its edits stay on a page of so many rows, however many
pub record Sound (r : ℕ) (d : Decision) : Type 0 where
  pub rows : d.core.rows ≡ r
  pub whole : Whole d.core
  pub first : Within r d.first
  pub second : Within r d.second

pub policy-sound : (r : ℕ) (t : Bool) (d : Decision) → Good r t d → Sound r (with_wrap_policy t d)
policy-sound r true d g = record {
  rows = g.rows;
  whole = record { parts = g.parts; wrap = no_wrap d.core.cursor.column d.core.modes.autowrap };
  first = g.first;
  second = g.second;
}
policy-sound r false d g = record { rows = g.rows; whole = record { parts = g.parts; wrap = g.wrap refl }; first = g.first; second = g.second }

pub good-kept : {r : ℕ} {t : Bool} (c : Core) (e : Edit) → c.rows ≡ r → Parts c → (t ≡ false → WrapOf c) → Within r e → Good r t (one_edit c e)
good-kept c e n p h i = record { rows = n; parts = p; wrap = h; first = i; second = tt }

pub good-unedited : (c : Core) (t : Bool) → Parts c → (t ≡ false → WrapOf c) → Good c.rows t (unedited c)
good-unedited c t p h = good-kept c _ refl p h tt

-- both arms of a test
pub good-either : {r : ℕ} {u : Bool} (t : Bool) {x y : Decision} → (t ≡ true → Good r u x) → (t ≡ false → Good r u y) → Good r u (cond t x y)
good-either {r} {u} t f g = either (Good r u) t f g
