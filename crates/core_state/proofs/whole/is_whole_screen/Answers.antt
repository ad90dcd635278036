-- The tests are the definition's, in a row.
use Rattle.std.specs.Prelude.{ℕ, Bool, true, get_or}
use Rattle.ground.proofs.TestLaws.{nine}
use Rattle.core_state.specs.Whole.{core_tests}
use Rattle.core_state.proofs.whole.is_whole_screen.Goals as goal

pub returns : goal.returns
returns c =
    let test : ℕ → Bool = λ n. get_or (core_tests c.args.core) n true in
    rw (c.is_sized.ensures, c.between.ensures, c.between-2.ensures)
    (rw (c.between-3.ensures, c.between-4.ensures, c.between-5.ensures)
    (nine (test 0) (test 1) (test 2) (test 3) (test 4) (test 5) (test 6) (test 7) (test 8)))
