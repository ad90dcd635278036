-- Each arm does what it promises; the first test tells which.
use Rattle.std.proofs.Common.{◌≡◌, ℕ, ◌+◌, ◌<◌, Bool, true, false, cond, not, ◌&&◌, List, get_or, sym, refl, ◌∙◌, arith}
use mathlib.Core.Bool.{false≢true}
use Rattle.ground.proofs.TestLaws.{and_left, and_right}
use Rattle.cells.specs.Runs.{is_character}
use Rattle.parser.specs.declared.phases.Phase.TheVariants.{Ground}
use Rattle.parser.specs.Phases.{is_ground}
use Rattle.parser.proofs.PhaseLaws.{phase-same}
use Rattle.core_state.specs.declared.Core.{Core}
use Rattle.core_state.specs.Glyphs.{is_edge, used_set, skipped}
use Rattle.dispatch.specs.Touches.{is_direct}
use Rattle.steps.specs.Ready.{Paged}
use Rattle.spans.specs.Characters.{is_unshifted, Direct}
use Rattle.spans.specs.Spans.{Spanned, ByteDone}
use Rattle.spans.specs.Direct.{acts_directly}
use Rattle.spans.proofs.SpannedLaws.{spanned-none, spanned-more}
use Rattle.spans.proofs.CharacterLaws.{edge-done}
use Rattle.spans.proofs.LineLaws.{return-done, tab-done}
use Rattle.spans.proofs.direct.act_directly.Goals as goal
use Rattle.spans.proofs.direct.act_directly.Goals.{Else-is_character}

-- what is tested of a byte
module _ (c : Core) (b : ℕ) (h : acts_directly c b ≡ true) where
  abbrev prints : Bool
  prints = is_unshifted c.shift && not c.cursor.wrap

  abbrev others : Bool
  others = cond (is_edge b) (skipped (used_set c b) b) (is_direct b)

  ground : c.parser.phase ≡ Ground
  ground = phase-same c.parser.phase Ground (and_left (is_ground c.parser.phase) (cond (is_character b) prints others) h)

  rest : cond (is_character b) prints others ≡ true
  rest = and_right (is_ground c.parser.phase) (cond (is_character b) prints others) h

  direct : (p : List ℕ) → Paged c p → is_character b ≡ true → Direct c p
  direct p P e = record {
    direct = rw (and_left (is_ground c.parser.phase) (cond (is_character b) prints others) h) (rw e at rest);
    paged = P;
  }

  ignored : is_character b ≡ false → is_edge b ≡ true → skipped (used_set c b) b ≡ true
  ignored n e = picked (is_edge b) e (rw n at rest)
    where
      picked : (t : Bool) → t ≡ true → cond t (skipped (used_set c b) b) (is_direct b) ≡ true → skipped (used_set c b) b ≡ true
      picked true e h = h
      picked false e h = absurd (false≢true e)

pub put_some-requires : goal.put_some-requires
put_some-requires c =
    let b = get_or c.args.input.now c.args.from 0 in
    let is : is_character b ≡ true = sym c.is_character.ensures ∙ c.if-is_character.true in
    (direct c.args.printer.core b c.requires.2 c.args.page.now c.requires.0 is, c.requires.1, is)

pub feed_lines-requires : goal.feed_lines-requires
feed_lines-requires c =
    let b = get_or c.args.input.now c.args.from 0 in
    (c.requires.0, ground c.args.printer.core b c.requires.2, sym c.scrolls_lines.ensures ∙ c.if-scrolls_lines.true, c.requires.1, c.if-byte-eq-LF.true)

abbrev byte_of : Else-is_character → ℕ
byte_of c = let a = c.args in get_or a.input.now a.from 0

-- one byte done
one_byte : (c : Else-is_character) (d : Core) (n : ℕ) (q : List ℕ)
    → let a = c.args in
    ByteDone a.printer.core a.changed a.page.now (byte_of c) d n q
    → Spanned a.printer.core a.changed a.page.now a.input.now a.from (a.from + 1) d n q × (a.from < a.from + 1)
one_byte c d n q done =
    (spanned-more (spanned-none _ _ _ _ _ c.requires.0 (omega (arith, c.requires.1))) c.requires.1 _ refl done, omega arith)

in-ground : (c : Else-is_character) → c.args.printer.core.parser.phase ≡ Ground
in-ground c =
    ground c.args.printer.core (byte_of c) c.requires.2

pub control_step-done-requires : goal.control_step-done-requires
control_step-done-requires c = (
  c.requires.0,
  in-ground (goal.at.control_step-done-requires c).Else-is_character,
  rw (sym c.is_character.ensures ∙ c.if-is_character.false, sym c.is_edge.ensures ∙ c.if-is_edge.false) at (rest c.args.printer.core (byte_of (goal.at.control_step-done-requires c).Else-is_character) c.requires.2),
)

-- CR
pub returns-then-byte-eq-CR : goal.returns-then-byte-eq-CR
returns-then-byte-eq-CR c =
    rw (c.to_column.ensures, c.left_stop.ensures)
    (one_byte (goal.at.returns-then-byte-eq-CR c).Else-is_character _ _ _ (rw c.if-byte-eq-CR.true (return-done c.args.printer.core c.args.changed c.args.page.now c.requires.0 (in-ground (goal.at.returns-then-byte-eq-CR c).Else-is_character))))

-- HT
pub returns-then-byte-eq-HT : goal.returns-then-byte-eq-HT
returns-then-byte-eq-HT c =
    rw (c.tab.ensures, c.right_stop.ensures)
    (one_byte (goal.at.returns-then-byte-eq-HT c).Else-is_character _ _ _ (rw c.if-byte-eq-HT.true (tab-done c.args.printer.core c.args.changed c.args.page.now c.requires.0 (in-ground (goal.at.returns-then-byte-eq-HT c).Else-is_character))))

-- a byte that its set ignores
pub returns-then-is_edge : goal.returns-then-is_edge
returns-then-is_edge c =
    let none = ignored c.args.printer.core (byte_of (goal.at.returns-then-is_edge c).Else-is_character) c.requires.2 (sym c.is_character.ensures ∙ c.if-is_character.false) (sym c.is_edge.ensures ∙ c.if-is_edge.true) in
    one_byte (goal.at.returns-then-is_edge c).Else-is_character _ _ _ (edge-done c.args.printer.core c.args.changed c.args.page.now (byte_of (goal.at.returns-then-is_edge c).Else-is_character) c.requires.0 (in-ground (goal.at.returns-then-is_edge c).Else-is_character) none)

pub returns : goal.returns
returns c =
    one_byte (goal.at.returns c).Else-is_character _ _ _ c.control_step-done.ensures
