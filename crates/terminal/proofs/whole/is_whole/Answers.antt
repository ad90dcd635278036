-- The tests of core and line are crate core's; a set below 2 ^ R has no row above R.
use Rattle.std.proofs.Common.{◌≡◌, Bool, ◌&&◌, sym, ◌∙◌, ap₂, one-mul, arith, lit<, shl_exact}
use Rattle.core_state.specs.Whole.{whole_displays}
use Rattle.wholeness.proofs.Wholeness.{displays-facts}
use Rattle.steps.specs.Whole.{whole_state}
use Rattle.terminal.proofs.whole.is_whole.Goals as goal
use Rattle.terminal.proofs.whole.is_whole.Goals.{After-is_whole_line}

-- both tests together
tests : (c : After-is_whole_line) → (c.is_whole.result && c.is_whole_line.result) ≡ whole_displays c.args.state.displays
unfolding whole_displays
tests c = ap₂ (λ (x y : Bool). x && y) c.is_whole.ensures c.is_whole_line.ensures

pub overflow_shl-result : goal.overflow_shl-result
overflow_shl-result c =
    let w = displays-facts c.args.state.displays (sym (tests (goal.at.overflow_shl-result c).After-is_whole_line) ∙ c.if-is_whole-is_whole_line.true) in
    omega (arith, w.core.parts.bounds.count.high)

pub returns-then-is_whole-is_whole_line : goal.returns-then-is_whole-is_whole_line
unfolding whole_state
returns-then-is_whole-is_whole_line c =
    let s = c.args.state in
    let e = sym (tests (goal.at.returns-then-is_whole-is_whole_line c).After-is_whole_line) ∙ c.if-is_whole-is_whole_line.true in
    let w = displays-facts s.displays e in
    rw (e, shl_exact 1 s.displays.core.rows 64 (lit< tt) (omega (arith, w.core.parts.bounds.count.high)), one-mul)

pub returns-else-is_whole-is_whole_line : goal.returns-else-is_whole-is_whole_line
unfolding whole_state
returns-else-is_whole-is_whole_line c = rw (sym (tests (goal.at.returns-else-is_whole-is_whole_line c).After-is_whole_line) ∙ c.if-is_whole-is_whole_line.false)
