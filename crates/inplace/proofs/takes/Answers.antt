-- Each return is the definition's, by the tests that led there.
use Rattle.std.proofs.Common.{◌≡◌, Bool, ◌&&◌, leb, length, sym, ap, ◌∙◌, le-leb}
use borrow.Author.Tests.{lt-leb}
use Rattle.inplace.specs.InPlace.{puts_ascii, takes_in_place}
use Rattle.inplace.proofs.takes.Goals as goal
use Rattle.inplace.proofs.takes.Goals.{After-puts_ascii}

first : (c : After-puts_ascii) → let a = c.args in
    (puts_ascii a.terminal && leb (length a.input.now) 16) ≡ (c.puts_ascii.result && leb (length a.input.now) 16)
first c = ap (λ (x : Bool). x && leb (length c.args.input.now) 16) (sym c.puts_ascii.ensures)

pub returns-then-not-puts_ascii-input : goal.returns-then-not-puts_ascii-input
unfolding takes_in_place
returns-then-not-puts_ascii-input c = rw (first (goal.at.returns-then-not-puts_ascii-input c).After-puts_ascii ∙ c.if-not-puts_ascii-input.true)

pub returns-then-terminal-input-gt80 : goal.returns-then-terminal-input-gt80
unfolding takes_in_place
returns-then-terminal-input-gt80 c =
    rw (first (goal.at.returns-then-terminal-input-gt80 c).After-puts_ascii ∙ c.if-not-puts_ascii-input.false, lt-leb _ 80 c.if-terminal-input-gt80.true)

pub returns : goal.returns
unfolding takes_in_place
returns c =
    rw (first (goal.at.returns c).After-puts_ascii ∙ c.if-not-puts_ascii-input.false, le-leb _ 80 c.if-terminal-input-gt80.false) c.all_ascii.ensures
