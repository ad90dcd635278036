-- A named record whose unused bytes are 0 comes back from its state; so does what asking leaves, with no row changed and the line's flag off.
use Rattle.std.proofs.Common.{◌≡◌, ℕ, suc, ◌<◌, Bool, true, false, cond, ltb, List, [], ◌∷◌, get_or, replicate, sym, refl, ap, ◌∙◌, arith, ltb-true}
use mathlib.Core.Bool.{false≢true}
use Rattle.cells.specs.Cells.{set_number, set_of}
use Rattle.ground.proofs.TestLaws.{at-number}
use Rattle.core_state.specs.Whole.{whole_core, whole_displays}
use Rattle.steps.specs.Whole.{whole_state}
use Rattle.steps.specs.declared.State.{State}
use Rattle.device.specs.Charsets.{register_number, register_of, shift_number, shift_of}
use Rattle.parser.specs.Phases.{phase_number, phase_of}
use Rattle.record.specs.declared.LineSavedRecord.{LineSavedRecord}
use Rattle.record.specs.declared.ModesRecord.{ModesRecord}
use Rattle.record.specs.declared.RenditionRecord.{RenditionRecord}
use Rattle.record.specs.declared.SavedRecord.{SavedRecord}
use Rattle.record.specs.declared.SetsRecord.{SetsRecord}
use Rattle.record.specs.declared.StatusRecord.{StatusRecord}
use Rattle.record.specs.declared.Terminal.{Terminal}
use Rattle.record.specs.Numbers.{flag_number, is_on}
use Rattle.record.specs.Record as records
use Rattle.record.specs.Record.{named, record_of, core_of, state_of, state_with, emptied}
use Rattle.record.proofs.PlainLaws.{every-at}

-- ---- numbers

pub flag-there : (n : ℕ) → ltb n 2 ≡ true → flag_number (is_on n) ≡ n
flag-there n e =
    let h = ltb-true n 2 e in
    at-number (λ (x : ℕ). flag_number (is_on x) ≡ x) n 0 refl (λ a. at-number (λ (x : ℕ). flag_number (is_on x) ≡ x) n 1 refl (λ b. absurd (omega arith)))

set_there : (n : ℕ) → ltb n 4 ≡ true → set_number (set_of n) ≡ n
set_there n e =
    let h = ltb-true n 4 e in
    let P : ℕ → Type 0 = λ x. set_number (set_of x) ≡ x in
    at-number P n 0 refl (λ a. at-number P n 1 refl (λ b. at-number P n 2 refl (λ c. at-number P n 3 refl (λ d. absurd (omega arith)))))

register-there : (n : ℕ) → ltb n 4 ≡ true → register_number (register_of n) ≡ n
register-there n e =
    let h = ltb-true n 4 e in
    let P : ℕ → Type 0 = λ x. register_number (register_of x) ≡ x in
    at-number P n 0 refl (λ a. at-number P n 1 refl (λ b. at-number P n 2 refl (λ c. at-number P n 3 refl (λ d. absurd (omega arith)))))

shift-there : (n : ℕ) → ltb n 3 ≡ true → shift_number (shift_of n) ≡ n
shift-there n e =
    let h = ltb-true n 3 e in
    let P : ℕ → Type 0 = λ x. shift_number (shift_of x) ≡ x in
    at-number P n 0 refl (λ a. at-number P n 1 refl (λ b. at-number P n 2 refl (λ c. absurd (omega arith))))

-- a number below k + 1 is k, or it is below k
below : (P : ℕ → Type 0) (n k : ℕ) → n < suc k → P k → (n < k → P n) → P n
below P n k h p q = at-number P n k p (λ a. q (omega arith))

phase-there : (n : ℕ) → ltb n 11 ≡ true → phase_number (phase_of n) ≡ n
phase-there n e =
    let P : ℕ → Type 0 = λ x. phase_number (phase_of x) ≡ x in
    below P n 10 (ltb-true n 11 e) refl (λ a. below P n 9 a refl (λ b. below P n 8 b refl (λ c. below P n 7 c refl (λ d. below P n 6 d refl
    (λ f. below P n 5 f refl (λ g. below P n 4 g refl (λ i. below P n 3 i refl (λ j. below P n 2 j refl (λ k. below P n 1 k refl
    (λ l. below P n 0 l refl (λ m. absurd (omega arith))))))))))))

-- ---- parts of a record

rendition-there : (r : RenditionRecord) → records.rendition_named r ≡ true → records.rendition_record (records.rendition_of r) ≡ r
rendition-there r e =
    let at = every-at (ltb r.bold 2 ∷ ltb r.underline 2 ∷ ltb r.blink 2 ∷ ltb r.reverse 2 ∷ []) e in
    λ i. record {
      bold = flag-there r.bold (at 0) i;
      underline = flag-there r.underline (at 1) i;
      blink = flag-there r.blink (at 2) i;
      reverse = flag-there r.reverse (at 3) i;
    }

modes-there : (m : ModesRecord) → records.modes_named m ≡ true → records.modes_record (records.modes_of m) ≡ m
modes-there m e =
    let at = every-at (ltb m.insert 2 ∷ ltb m.newline 2 ∷ ltb m.origin 2 ∷ ltb m.autowrap 2 ∷ ltb m.shown 2 ∷ ltb m.eightbit 2
    ∷ ltb m.rectangle 2 ∷ []) e in
    λ i. record {
      insert = flag-there m.insert (at 0) i;
      newline = flag-there m.newline (at 1) i;
      origin = flag-there m.origin (at 2) i;
      autowrap = flag-there m.autowrap (at 3) i;
      shown = flag-there m.shown (at 4) i;
      eightbit = flag-there m.eightbit (at 5) i;
      rectangle = flag-there m.rectangle (at 6) i;
    }

sets-there : (s : SetsRecord) → records.sets_named s ≡ true → records.sets_record (records.sets_of s) ≡ s
sets-there s e =
    let at = every-at (ltb s.g0 4 ∷ ltb s.g1 4 ∷ ltb s.g2 4 ∷ ltb s.g3 4 ∷ ltb s.gl 4 ∷ ltb s.gr 4 ∷ []) e in
    λ i. record {
      g0 = set_there s.g0 (at 0) i;
      g1 = set_there s.g1 (at 1) i;
      g2 = set_there s.g2 (at 2) i;
      g3 = set_there s.g3 (at 3) i;
      gl = register-there s.gl (at 4) i;
      gr = register-there s.gr (at 5) i;
    }

saved-there : (s : SavedRecord) → records.saved_named s ≡ true → records.saved_record (records.saved_of s) ≡ s
saved-there s e =
    let at = every-at (ltb s.cursor.wrap 2 ∷ records.rendition_named s.rendition ∷ ltb s.origin 2 ∷ records.sets_named s.sets
    ∷ ltb s.protected 2 ∷ ltb s.shift 3 ∷ []) e in
    λ i. record {
      cursor = record { row = s.cursor.row; column = s.cursor.column; wrap = flag-there s.cursor.wrap (at 0) i };
      rendition = rendition-there s.rendition (at 1) i;
      origin = flag-there s.origin (at 2) i;
      sets = sets-there s.sets (at 3) i;
      protected = flag-there s.protected (at 4) i;
      shift = shift-there s.shift (at 5) i;
    }

line-saved-there : (s : LineSavedRecord) → records.line_saved_named s ≡ true → records.line_saved_record (records.line_saved_of s) ≡ s
line-saved-there s e =
    let at = every-at (ltb s.wrap 2 ∷ records.rendition_named s.rendition ∷ records.sets_named s.sets ∷ ltb s.protected 2 ∷ ltb s.shift 3 ∷ []) e in
    λ i. record {
      column = s.column;
      wrap = flag-there s.wrap (at 0) i;
      rendition = rendition-there s.rendition (at 1) i;
      sets = sets-there s.sets (at 2) i;
      protected = flag-there s.protected (at 3) i;
      shift = shift-there s.shift (at 4) i;
    }

status-there : (s : StatusRecord) → records.status_named s ≡ true → records.status_record (records.line_of s) ≡ s
status-there s e =
    let at = every-at (ltb s.present 2 ∷ ltb s.active 2 ∷ ltb s.wrap 2 ∷ records.line_saved_named s.saved ∷ []) e in
    λ i. record {
      present = flag-there s.present (at 0) i;
      active = flag-there s.active (at 1) i;
      column = s.column;
      wrap = flag-there s.wrap (at 2) i;
      saved = line-saved-there s.saved (at 3) i;
    }

-- ---- the record

-- the state that asking leaves
abbrev pub untold : State → State
untold s = record { displays = s.displays; tracked = record { changed = 0; flag = false } }

-- the tests of its numbers
abbrev name_tests : Terminal → List Bool
name_tests t =
    ltb t.protected 2
    ∷ ltb t.shift 3
    ∷ ltb t.cursor.wrap 2
    ∷ ltb t.parser.phase 11
    ∷ records.modes_named t.modes
    ∷ records.rendition_named t.rendition
    ∷ records.sets_named t.sets
    ∷ records.saved_named t.saved
    ∷ records.status_named t.status
    ∷ ltb t.flag 2
    ∷ []

module _ (t : Terminal) (e : named t ≡ true) where
  names : (k : ℕ) → get_or (name_tests t) k true ≡ true
  unfolding named
  names = every-at (name_tests t) e

  pub record-back : t.unused ≡ replicate 5 0 → record_of (state_of t) ≡ t
  unfolding record_of state_of core_of
  record-back u = λ i. record {
    changed = t.changed;
    values = t.values;
    tabs = t.tabs;
    rows = cond (e i) t.rows 0;
    top = t.top;
    bottom = t.bottom;
    protected = flag-there t.protected (names 0) i;
    shift = shift-there t.shift (names 1) i;
    cursor = record { row = t.cursor.row; column = t.cursor.column; wrap = flag-there t.cursor.wrap (names 2) i };
    modes = modes-there t.modes (names 4) i;
    rendition = rendition-there t.rendition (names 5) i;
    sets = sets-there t.sets (names 6) i;
    saved = saved-there t.saved (names 7) i;
    parser = record {
      phase = phase-there t.parser.phase (names 3) i;
      mark = t.parser.mark;
      first = t.parser.first;
      second = t.parser.second;
      separators = t.parser.separators;
    };
    status = status-there t.status (names 8) i;
    flag = flag-there t.flag (names 9) i;
    unused = sym u i;
  }

  emptied-named : named (emptied t) ≡ true
  unfolding named emptied
  emptied-named = rw (names 0, names 1, names 2, names 3, names 4, names 5, names 6, names 7, names 8)

  untold-is : untold (state_of t) ≡ state_of (emptied t)
  unfolding state_of core_of emptied
  untold-is = rw (e, emptied-named)

  emptied-unused : (emptied t).unused ≡ replicate 5 0
  unfolding emptied
  emptied-unused = refl

pub emptied-is : (t : Terminal) → named t ≡ true → record_of (untold (state_of t)) ≡ emptied t
emptied-is t e = ap record_of (untold-is t e) ∙ record-back (emptied t) (emptied-named t e) (emptied-unused t e)

-- a whole state is that of a named record: where a number names nothing there are no rows
pub whole-named : (t : Terminal) → whole_state (state_of t) ≡ true → named t ≡ true
unfolding whole_state whole_displays whole_core state_of core_of
whole-named t = go (named t)
  where
    go : (b : Bool) → whole_state (record {
      displays = record { core = core_of t (cond b t.rows 0); line = records.line_of t.status };
      tracked = record { changed = t.changed; flag = is_on t.flag };
    }) ≡ true → b ≡ true
    go true e = refl
    go false e = absurd (false≢true e)

-- ---- what a call tells of a named record

pub named-with : (t : Terminal) → named t ≡ true → state_with t t.rows ≡ state_of t
unfolding state_of state_with
named-with t e = rw e

pub record Told (t : Terminal) : Type 0 where
  pub rows : (state_of t).displays.core.rows ≡ t.rows
  pub changed : (state_of t).tracked.changed ≡ t.changed
  pub flag : flag_number (state_of t).tracked.flag ≡ t.flag
  pub row : (state_of t).displays.core.cursor.row ≡ t.cursor.row
  pub column : (state_of t).displays.core.cursor.column ≡ t.cursor.column
  pub wrap : flag_number (state_of t).displays.core.cursor.wrap ≡ t.cursor.wrap
  pub shown : flag_number (state_of t).displays.core.modes.shown ≡ t.modes.shown

pub told : (t : Terminal) → named t ≡ true → Told t
unfolding state_of core_of
told t e =
    record {
      rows = ap (λ (b : Bool). cond b t.rows 0) e;
      changed = refl;
      flag = flag-there t.flag (names t e 9);
      row = refl;
      column = refl;
      wrap = flag-there t.cursor.wrap (names t e 2);
      shown = ap (λ (m : ModesRecord). m.shown) (modes-there t.modes (names t e 4));
    }
