-- Each return is the definition's, by the tests that led there.
use Rattle.std.proofs.Common.{◌≡◌, ◌≤◌, Bool, true, ◌&&◌, sym, ◌∙◌, ap₂, one-mul, arith, lit<, shl_exact}
use Rattle.parser.specs.Params.{none_above}
use Rattle.ground.proofs.TestLaws.{and_right}
use Rattle.record.specs.Plain.{every, plain_parser, place_tests, plain_look, plain}
use Rattle.record.proofs.PlainLaws.{few-rows}
use Rattle.record.proofs.plain.is_plain.Goals as goal
use Rattle.record.proofs.plain.is_plain.Goals.{After-plain_places, After-plain_signs-3, Else-not-are_numbers, Else-not-plain_parser-plain_places}

numbers : (c : Else-not-are_numbers) → none_above 9999 c.args.terminal.values ≡ true
numbers c = sym c.are_numbers.ensures ∙ c.if-not-are_numbers.false

-- parser and places
placed : (c : After-plain_places) → let t = c.args.terminal in
    (c.plain_parser.result && c.plain_places.result) ≡ (plain_parser t.parser && every (place_tests t))
placed c = ap₂ (λ (x y : Bool). x && y) c.plain_parser.ensures c.plain_places.ensures

-- the three renditions and sets
look : (c : After-plain_signs-3) → let t = c.args.terminal in
    (c.plain_signs.result && c.plain_signs-2.result && c.plain_signs-3.result) ≡ plain_look t
look c = rw (c.plain_signs.ensures, c.plain_signs-2.ensures, c.plain_signs-3.ensures)

pub returns-then-not-are_numbers : goal.returns-then-not-are_numbers
unfolding plain
returns-then-not-are_numbers c = rw (sym c.are_numbers.ensures ∙ c.if-not-are_numbers.true)

pub returns-then-not-plain_parser-plain_places : goal.returns-then-not-plain_parser-plain_places
unfolding plain
returns-then-not-plain_parser-plain_places c = rw (numbers (goal.at.returns-then-not-plain_parser-plain_places c).Else-not-are_numbers, sym (placed (goal.at.returns-then-not-plain_parser-plain_places c).After-plain_places) ∙ c.if-not-plain_parser-plain_places.true)

pub returns-then-not-plain_flags : goal.returns-then-not-plain_flags
unfolding plain
returns-then-not-plain_flags c =
    rw (
      numbers (goal.at.returns-then-not-plain_flags c).Else-not-are_numbers,
      sym (placed (goal.at.returns-then-not-plain_flags c).After-plain_places) ∙ c.if-not-plain_parser-plain_places.false,
      sym c.plain_flags.ensures ∙ c.if-not-plain_flags.true,
    )

pub returns-then-not-plain_signs : goal.returns-then-not-plain_signs
unfolding plain
returns-then-not-plain_signs c =
    rw (
      numbers (goal.at.returns-then-not-plain_signs c).Else-not-are_numbers,
      sym (placed (goal.at.returns-then-not-plain_signs c).After-plain_places) ∙ c.if-not-plain_parser-plain_places.false,
      sym c.plain_flags.ensures ∙ c.if-not-plain_flags.false,
      sym (look (goal.at.returns-then-not-plain_signs c).After-plain_signs-3) ∙ c.if-not-plain_signs.true,
    )

few : (c : Else-not-plain_parser-plain_places) → c.args.terminal.rows ≤ 48
few c =
    let t = c.args.terminal in
    few-rows t (and_right (plain_parser t.parser) (every (place_tests t)) (sym (placed c.before) ∙ c.if-not-plain_parser-plain_places.false))

pub overflow_shl-result : goal.overflow_shl-result
overflow_shl-result c = omega (arith, few (goal.at.overflow_shl-result c).Else-not-plain_parser-plain_places)

pub returns : goal.returns
unfolding plain
returns c =
    let rows = c.args.terminal.rows in
    rw (
      numbers (goal.at.returns c).Else-not-are_numbers,
      sym (placed (goal.at.returns c).After-plain_places) ∙ c.if-not-plain_parser-plain_places.false,
      sym c.plain_flags.ensures ∙ c.if-not-plain_flags.false,
      sym (look (goal.at.returns c).After-plain_signs-3) ∙ c.if-not-plain_signs.false,
      shl_exact 1 rows 64 (lit< tt) (omega (arith, few (goal.at.returns c).Else-not-plain_parser-plain_places)),
      one-mul,
    )
