-- Each return is the definition's case, by the tests that led there.
use Rattle.std.proofs.Common.{◌≡◌, ℕ, ◌⊎◌, inl, inr, refl, true, sym, ◌∙◌, rules}
use borrow.Author.Tests.{ne_eqb}
use Rattle.core_state.specs.Whole.{sized}
use Rattle.steps.specs.Steps.{buffers}
use Rattle.steps.specs.Whole.{right_sizes}
use Rattle.terminal.specs.Start.{started}
use Rattle.terminal.proofs.CallLaws.{sizes-passed, sizes-refused, sizes-fit}
use Rattle.terminal.proofs.calls.start.Goals as goal
use Rattle.terminal.proofs.calls.start.Goals.{Joined-matches, in-24, in_default}

-- a number that the test names
listed : (r : ℕ) → (r ≡ 24) ⊎ ((r ≡ 36) ⊎ (r ≡ 48)) → true ≡ sized r
listed r (inl e) = rw e refl
listed r (inr (inl e)) = rw e refl
listed r (inr (inr e)) = rw e refl

-- the test is the definition's
tested : (c : Joined-matches) → c.match-matches.matches ≡ sized c.args.rows
tested c =
    elim c.match-matches.branch [
      | in-24 w ↦ w.matches-is ∙ listed c.args.rows w.in-24.is
      | in_default w ↦ w.matches-is ∙ search (rules, ne_eqb)
    ]

pub returns-then-not-matches : goal.returns-then-not-matches
unfolding started
returns-then-not-matches c = rw (sym (tested (goal.at.returns-then-not-matches c).Joined-matches) ∙ c.if-not-matches.true, c.not_started.ensures)

pub returns-in_err-map_err : goal.returns-in_err-map_err
unfolding started
returns-in_err-map_err c =
    let one : sized c.args.rows ≡ true = sym (tested (goal.at.returns-in_err-map_err c).Joined-matches) ∙ c.if-not-matches.false in
    search (rules, sizes-refused)

pub returns : goal.returns
unfolding started
returns c =
    let one : sized c.args.rows ≡ true = sym (tested (goal.at.returns c).Joined-matches) ∙ c.if-not-matches.false in
    let lent = buffers c.args.page.now c.args.line.now in
    let right : right_sizes c.args.rows lent ≡ true = search (rules, sizes-passed) in
    let fit = sizes-fit c.args.rows lent right in
    rw (one, right, c.fresh.ensures, c.clear.ensures, c.clear-2.ensures, fit.0, fit.1)
