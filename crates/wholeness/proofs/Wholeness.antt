-- A whole core: the test, and the facts with one of the three sizes, say the same; and the fresh core is whole.
use Rattle.std.proofs.Common.{◌≡◌, ℕ, ◌≤◌, Bool, true, false, ◌&&◌, ◌||◌, eqb, refl, arith, ltb-true, lt-ltb, eq-eqb, eqb-true, le-leb, leb-true}
use mathlib.Core.Bool.{false≢true}
use Rattle.parser.specs.declared.parser.Parser.{Parser}
use Rattle.core_state.specs.declared.Core.{Core}
use Rattle.ground.specs.Tests.{between, all}
use Rattle.device.specs.Cursor.{place}
use Rattle.core_state.specs.declared.Margins.{Margins}
use Rattle.core_state.specs.declared.StatusLine.{StatusLine}
use Rattle.core_state.specs.declared.Displays.{Displays}
use Rattle.core_state.specs.Bounds.{Rows, OnPage, Scrolls}
use Rattle.core_state.specs.Whole.{sized, core_tests, whole_core, line_tests, whole_displays, WrapHeld, OriginHeld, SavedHeld, Whole, WholeLine, WholeDisplays}
use Rattle.core_state.specs.Fresh.{fresh_core}
use Rattle.parser.specs.WholeParser.{parser_tests, WholeParser}
use Rattle.ground.proofs.TestLaws.{and_left, and_right, and_both, or_cases, all-at, implied, implying, between-low, between-high, in_between}

-- ---- the three sizes

sized-between : (r : ℕ) → sized r ≡ true → (24 ≤ r) × (r ≤ 48)
sized-between r e =
    or_cases (eqb r 24 || eqb r 36) (eqb r 48) e
    (λ h. or_cases (eqb r 24) (eqb r 36) h (λ k. omega (arith, eqb-true r 24 k)) (λ k. omega (arith, eqb-true r 36 k)))
    (λ k. omega (arith, eqb-true r 48 k))

pub sized_rows : (r : ℕ) → sized r ≡ true → Rows r
sized_rows r e = omega (arith, sized-between r e)

-- ---- the test and the facts

pub placed : (rows row column : ℕ) → between 1 row rows ≡ true → between 1 column 80 ≡ true → OnPage rows row column
placed rows row column a b =
    omega (arith, between-low 1 row rows a, between-high 1 row rows a, between-low 1 column 80 b, between-high 1 column 80 b)

pub parser-facts : (p : Parser) → all (parser_tests p) ≡ true → WholeParser p
parser-facts p e =
    let t = all-at (parser_tests p) e in
    record { few = leb-true p.params.separators 16 (t 0); small = t 1; first = t 2; second = t 3; mark = t 4 }

pub parser-tested : (p : Parser) → WholeParser p → all (parser_tests p) ≡ true
parser-tested p w = rw (le-leb p.params.separators 16 w.few, w.small, w.first, w.second, w.mark)

module _ (c : Core) (e : whole_core c ≡ true) where
  core-tests : all (core_tests c) ≡ true
  unfolding whole_core
  core-tests = and_left (all (core_tests c)) (all (parser_tests c.parser)) e

  pub core-sized : sized c.rows ≡ true
  core-sized = all-at (core_tests c) core-tests 0

  margins-facts : Scrolls c.rows c.margins
  margins-facts =
      let m = c.margins in
      let t = all-at (core_tests c) core-tests 3 in
      let low = leb-true 1 m.top (search (and_left, and_right)) in
      let some = ltb-true m.top m.bottom (search (and_left, and_right)) in
      let high = leb-true m.bottom c.rows (search (and_left, and_right)) in
      omega arith

  pub facts : Whole c
  unfolding whole_core
  facts =
      let t = all-at (core_tests c) core-tests in
      let u = c.cursor in
      let m = c.margins in
      let s = c.saved.cursor in
      let due = implied u.wrap (eqb u.column 80 && c.modes.autowrap) (t 4) in
      let inside = implied c.modes.origin (between m.top u.row m.bottom) (t 5) in
      record {
        parts = record {
          bounds = record { count = sized_rows c.rows core-sized; cursor = placed c.rows u.row u.column (t 1) (t 2); margins = margins-facts };
          origin = record {
            low = λ h. between-low m.top u.row m.bottom (inside h);
            high = λ h. between-high m.top u.row m.bottom (inside h);
          };
          saved = record {
            place = placed c.rows s.row s.column (t 6) (t 7);
            wrap = λ h. eqb-true s.column 80 (implied s.wrap (eqb s.column 80) (t 8) h);
          };
          parser = parser-facts c.parser (and_right (all (core_tests c)) (all (parser_tests c.parser)) e);
        };
        wrap = record {
          column = λ h. eqb-true u.column 80 (and_left (eqb u.column 80) c.modes.autowrap (due h));
          mode = λ h. and_right (eqb u.column 80) c.modes.autowrap (due h);
        };
      }

pub tested : (c : Core) → sized c.rows ≡ true → Whole c → whole_core c ≡ true
unfolding whole_core
tested c e w =
    let u = c.cursor in
    let m = c.margins in
    let s = c.saved.cursor in
    let p = w.parts in
    let on = p.bounds.cursor in
    let scrolls = p.bounds.margins in
    let place = p.saved.place in
    rw (
      e,
      in_between 1 u.row c.rows on.row_low on.row-high,
      in_between 1 u.column 80 on.column-low on.column-high,
      le-leb 1 m.top scrolls.low,
      lt-ltb m.top m.bottom (scrolls.some (omega (arith, sized-between c.rows e))),
      le-leb m.bottom c.rows scrolls.high,
      implying u.wrap (eqb u.column 80 && c.modes.autowrap)
          (λ h. and_both (eqb u.column 80) c.modes.autowrap (eq-eqb u.column 80 (w.wrap.column h)) (w.wrap.mode h)),
      implying c.modes.origin (between m.top u.row m.bottom)
          (λ h. in_between m.top u.row m.bottom (p.origin.low h) (p.origin.high h)),
      in_between 1 s.row c.rows place.row_low place.row-high,
      in_between 1 s.column 80 place.column-low place.column-high,
      implying s.wrap (eqb s.column 80) (λ h. eq-eqb s.column 80 (p.saved.wrap h)),
    )
    (parser-tested c.parser p.parser)

-- ---- the line

module _ (l : StatusLine) (on : Bool) where
  line-facts : all (line_tests l on) ≡ true → WholeLine l on
  line-facts e =
      let t = all-at (line_tests l on) e in
      let due = implied l.wrap (eqb l.column 80 && on) (t 1) in
      let s = l.saved in
      record {
        low = between-low 1 l.column 80 (t 0);
        high = between-high 1 l.column 80 (t 0);
        wrap = record {
          column = λ h. eqb-true l.column 80 (and_left (eqb l.column 80) on (due h));
          mode = λ h. and_right (eqb l.column 80) on (due h);
        };
        saved_low = between-low 1 s.column 80 (t 2);
        saved-high = between-high 1 s.column 80 (t 2);
        saved-wrap = λ h. eqb-true s.column 80 (implied s.wrap (eqb s.column 80) (t 3) h);
        typed = implied l.active l.present (t 4);
      }

  line-tested : WholeLine l on → all (line_tests l on) ≡ true
  line-tested w =
      let s = l.saved in
      rw (
        in_between 1 l.column 80 w.low w.high,
        implying l.wrap (eqb l.column 80 && on)
            (λ h. and_both (eqb l.column 80) on (eq-eqb l.column 80 (w.wrap.column h)) (w.wrap.mode h)),
        in_between 1 s.column 80 w.saved_low w.saved-high,
        implying s.wrap (eqb s.column 80) (λ h. eq-eqb s.column 80 (w.saved-wrap h)),
        implying l.active l.present w.typed,
      )

module _ (k : Displays) (e : whole_displays k ≡ true) where
  pub displays-core : whole_core k.core ≡ true
  unfolding whole_displays
  displays-core = and_left (whole_core k.core) (all (line_tests k.line k.core.modes.autowrap)) e

  pub displays-facts : WholeDisplays k
  unfolding whole_displays
  displays-facts =
      let on = k.core.modes.autowrap in
      record {
        core = facts k.core displays-core;
        line = line-facts k.line on (and_right (whole_core k.core) (all (line_tests k.line on)) e);
      }

pub displays-tested : (k : Displays) → sized k.core.rows ≡ true → WholeDisplays k → whole_displays k ≡ true
unfolding whole_displays
displays-tested k e w =
    and_both (whole_core k.core) (all (line_tests k.line k.core.modes.autowrap))
    (tested k.core e w.core) (line-tested k.line k.core.modes.autowrap w.line)

-- ---- the fresh core, of any number of rows

-- no wrap due
pub no_wrap : (column : ℕ) (autowrap : Bool) → WrapHeld false column autowrap
no_wrap column autowrap = record { column = λ h. absurd (false≢true h); mode = λ h. absurd (false≢true h) }

pub full : (r : ℕ) → Rows r → Scrolls r (record { top = 1; bottom = r })
full r n = omega arith

pub origin-off : (m : Margins) (row : ℕ) → OriginHeld false m row
origin-off m row = record { low = λ h. absurd (false≢true h); high = λ h. absurd (false≢true h) }

-- a saved cursor at 1,1
pub saved-home : (r : ℕ) → Rows r → SavedHeld r (place 1 1)
saved-home r n = record { place = omega arith; wrap = λ h. absurd (false≢true h) }

pub fresh-rows : (r : ℕ) → (fresh_core r).rows ≡ r
unfolding fresh_core
fresh-rows r = refl

pub fresh-whole : (r : ℕ) → Rows r → Whole (fresh_core r)
unfolding fresh_core
fresh-whole r n = record {
  parts = record {
    bounds = record { count = n; cursor = omega arith; margins = full r n };
    origin = origin-off (record { top = 1; bottom = r }) 1;
    saved = saved-home r n;
    parser = record { few = omega arith; small = refl; first = refl; second = refl; mark = refl };
  };
  wrap = no_wrap 1 false;
}
