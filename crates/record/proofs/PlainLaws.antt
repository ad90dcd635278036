-- A plain record is named, and its state is whole.
use Rattle.std.proofs.Common.{◌≡◌, ℕ, zero, suc, ◌^◌, ◌<◌, ◌≤◌, Bool, true, false, ◌&&◌, ◌||◌, eqb, ltb, leb, List, [], ◌∷◌, get_or, take, refl, arith, ltb-true, ne_eqb, eqb-true}
use borrow.Author.Tests.{lt-leb}
use Rattle.ground.specs.Tests.{between, all}
use Rattle.ground.proofs.TestLaws.{and_left, and_right, and_both, or_cases, between-low, between-high}
use Rattle.core_state.specs.Whole.{sized, whole_core, whole_displays}
use Rattle.parser.specs.Params.{none_above}
use Rattle.parser.specs.Phases.{phase_of, intermediates}
use Rattle.parser.specs.WholeParser.{is_mark, parser_tests}
use Rattle.steps.specs.Whole.{whole_state}
use Rattle.record.specs.declared.ParserRecord.{ParserRecord}
use Rattle.record.specs.declared.Terminal.{Terminal}
use Rattle.record.specs.Record.{rendition_named, sets_named, parser_of, core_of, named, state_of}
use Rattle.record.specs.Plain.{along, every, plain_phase, plain_mark, plain_parser, plain_signs, plain_look, place_tests, flag_tests, plain}

-- ---- tests in a row

along-first : (a : Bool) (bs : List Bool) → along a bs ≡ true → a ≡ true
along-first a [] e = e
along-first a (b ∷ bs) e = and_left a b (along-first (a && b) bs e)

along-at : (a : Bool) (bs : List Bool) → along a bs ≡ true → (k : ℕ) → get_or (a ∷ bs) k true ≡ true
along-at a bs e zero = along-first a bs e
along-at a [] e (suc k) = refl
along-at a (b ∷ bs) e (suc zero) = and_right a b (along-first (a && b) bs e)
along-at a (b ∷ bs) e (suc (suc k)) = along-at (a && b) bs e (suc k)

-- each of the tests holds
pub every-at : (ts : List Bool) → every ts ≡ true → (k : ℕ) → get_or ts k true ≡ true
every-at [] e k = refl
every-at (a ∷ bs) e k = along-at a bs e k

-- ---- the parser

taken : (m n : ℕ) (vs : List ℕ) → none_above m vs ≡ true → none_above m (take n vs) ≡ true
taken m zero vs e = refl
taken m (suc n) [] e = refl
taken m (suc n) (x ∷ vs) e =
    and_both (leb x m) (none_above m (take n vs)) (and_left (leb x m) (none_above m vs) e) (taken m n vs (and_right (leb x m) (none_above m vs) e))

record PhasePlain (n : ℕ) : Type 0 where
  pub named : ltb n 11 ≡ true
  pub none : intermediates (phase_of n) ≡ 0

phase-plain : (n : ℕ) → plain_phase n ≡ true → PhasePlain n
phase-plain n e =
    or_cases (eqb n 0 || eqb n 1 || eqb n 5 || eqb n 6) (eqb n 10) e
    (λ f. or_cases (eqb n 0 || eqb n 1 || eqb n 5) (eqb n 6) f
    (λ g. or_cases (eqb n 0 || eqb n 1) (eqb n 5) g
    (λ h. or_cases (eqb n 0) (eqb n 1) h (λ k. is 0 k (record { named = refl; none = refl })) (λ k. is 1 k (record { named = refl; none = refl })))
    (λ k. is 5 k (record { named = refl; none = refl })))
    (λ k. is 6 k (record { named = refl; none = refl })))
    (λ k. is 10 k (record { named = refl; none = refl }))
  where
    is : (k : ℕ) → eqb n k ≡ true → PhasePlain k → PhasePlain n
    is k e p = rw (eqb-true n k e) p

record MarkPlain (m : ℕ) : Type 0 where
  pub mark : is_mark m ≡ true
  pub single : leb 0x80 m ≡ false

mark-plain : (m : ℕ) → plain_mark m ≡ true → MarkPlain m
mark-plain m e =
    or_cases (eqb m 0) (between 0x3C m 0x3F) e
    (λ k. rw (eqb-true m 0 k) (record { mark = refl; single = refl }))
    (λ b. let low = between-low 0x3C m 0x3F b in
    let high = between-high 0x3C m 0x3F b in
    let single = lt-leb 0x80 m (omega arith) in
    record { mark = rw (single, ne_eqb m 0 (λ z. omega arith), b); single = single })

module _ (p : ParserRecord) (vs : List ℕ) (e : plain_parser p ≡ true) (v : none_above 9999 vs ≡ true) where
  few : leb p.separators 16 ≡ true
  few = and_left (leb p.separators 16) (plain_mark p.mark) (and_left (leb p.separators 16 && plain_mark p.mark) (plain_phase p.phase) e)

  mark-facts : MarkPlain p.mark
  mark-facts =
      mark-plain p.mark
      (and_right (leb p.separators 16) (plain_mark p.mark) (and_left (leb p.separators 16 && plain_mark p.mark) (plain_phase p.phase) e))

  phase-facts : PhasePlain p.phase
  phase-facts = phase-plain p.phase (and_right (leb p.separators 16 && plain_mark p.mark) (plain_phase p.phase) e)

  parser-whole : all (parser_tests (parser_of p vs)) ≡ true
  parser-whole = rw (few, mark-facts.mark, mark-facts.single, taken 9999 _ vs v, phase-facts.none)

-- ---- the record

few-sized : (r : ℕ) → sized r ≡ true → r ≤ 48
few-sized r e =
    or_cases (eqb r 24 || eqb r 36) (eqb r 48) e
    (λ h. or_cases (eqb r 24) (eqb r 36) h (λ k. omega (arith, eqb-true r 24 k)) (λ k. omega (arith, eqb-true r 36 k)))
    (λ k. omega (arith, eqb-true r 48 k))

pub few-rows : (t : Terminal) → every (place_tests t) ≡ true → t.rows ≤ 48
unfolding place_tests
few-rows t e = few-sized t.rows (every-at (place_tests t) e 0)

-- what the tests say, in groups
pub record Plain (t : Terminal) : Type 0 where
  pub values : none_above 9999 t.values ≡ true
  pub parser : plain_parser t.parser ≡ true
  pub places : every (place_tests t) ≡ true
  pub flags : every (flag_tests t) ≡ true
  pub look : plain_look t ≡ true
  pub changed : ltb t.changed (2 ^ t.rows) ≡ true

pub plain-facts : (t : Terminal) → plain t ≡ true → Plain t
unfolding plain
plain-facts t e =
    let v = none_above 9999 t.values in
    let p = plain_parser t.parser in
    let l = every (place_tests t) in
    let f = every (flag_tests t) in
    let k = plain_look t in
    let e1 = and_left (v && (p && l) && f && k) (ltb t.changed (2 ^ t.rows)) e in
    let e2 = and_left (v && (p && l) && f) k e1 in
    let e3 = and_left (v && (p && l)) f e2 in
    let pl = and_right v (p && l) e3 in
    record {
      values = and_left v (p && l) e3;
      parser = and_left p l pl;
      places = and_right p l pl;
      flags = and_right (v && (p && l)) f e2;
      look = and_right (v && (p && l) && f) k e1;
      changed = and_right (v && (p && l) && f && k) (ltb t.changed (2 ^ t.rows)) e;
    }

module _ (t : Terminal) (w : Plain t) where
  flag_at : (k : ℕ) → get_or (flag_tests t) k true ≡ true
  flag_at = every-at (flag_tests t) w.flags

  pub off : t.cursor.wrap ≡ 0
  unfolding flag_tests
  off = eqb-true t.cursor.wrap 0 (flag_at 0)

  origin-off : t.modes.origin ≡ 0
  unfolding flag_tests
  origin-off = eqb-true t.modes.origin 0 (flag_at 1)

  saved-off : t.saved.cursor.wrap ≡ 0
  unfolding flag_tests
  saved-off = eqb-true t.saved.cursor.wrap 0 (flag_at 2)

  line-off : t.status.wrap ≡ 0
  unfolding flag_tests
  line-off = eqb-true t.status.wrap 0 (flag_at 3)

  kept_off : t.status.saved.wrap ≡ 0
  unfolding flag_tests
  kept_off = eqb-true t.status.saved.wrap 0 (flag_at 4)

  pub inactive : t.status.active ≡ 0
  unfolding flag_tests
  inactive = eqb-true t.status.active 0 (flag_at 5)

  signs : (k : ℕ) → get_or (plain_signs t.rendition t.sets ∷ plain_signs t.saved.rendition t.saved.sets
      ∷ plain_signs t.status.saved.rendition t.status.saved.sets ∷ []) k true ≡ true
  signs =
      every-at (plain_signs t.rendition t.sets ∷ plain_signs t.saved.rendition t.saved.sets
      ∷ plain_signs t.status.saved.rendition t.status.saved.sets ∷ []) w.look

  is-named : named t ≡ true
  unfolding named flag_tests
  is-named =
      rw (off, origin-off, saved-off, line-off, kept_off, inactive)
      (rw (flag_at 6, flag_at 7, flag_at 8, flag_at 9, flag_at 10, flag_at 11)
      (rw (flag_at 12, flag_at 13, flag_at 14, flag_at 15, flag_at 16, flag_at 17, flag_at 18, flag_at 19, flag_at 20)
      (rw (and_left (rendition_named t.rendition) (sets_named t.sets) (signs 0), and_right (rendition_named t.rendition) (sets_named t.sets) (signs 0))
      (rw (
        and_left (rendition_named t.saved.rendition) (sets_named t.saved.sets) (signs 1),
        and_right (rendition_named t.saved.rendition) (sets_named t.saved.sets) (signs 1),
      )
      (rw (
        and_left (rendition_named t.status.saved.rendition) (sets_named t.status.saved.sets) (signs 2),
        and_right (rendition_named t.status.saved.rendition) (sets_named t.status.saved.sets) (signs 2),
        (phase-facts t.parser t.values w.parser w.values).named,
      ))))))

  is_whole : whole_state (state_of t) ≡ true
  unfolding whole_state whole_displays whole_core state_of core_of place_tests
  is_whole =
      let at = every-at (place_tests t) w.places in
      rw (is-named, parser-whole t.parser t.values w.parser w.values, w.changed)
      (rw (off, origin-off, saved-off, line-off, kept_off, inactive)
      (rw (at 0, at 1, at 2, at 3, at 4, at 5, at 6, at 7, at 8, at 9)))

pub plain-named : (t : Terminal) → plain t ≡ true → named t ≡ true
plain-named t e = is-named t (plain-facts t e)

pub plain-whole : (t : Terminal) → plain t ≡ true → whole_state (state_of t) ≡ true
plain-whole t e = is_whole t (plain-facts t e)

pub plain-changed : (t : Terminal) → plain t ≡ true → t.changed < 2 ^ t.rows
plain-changed t e = ltb-true t.changed (2 ^ t.rows) (plain-facts t e).changed
