-- A state's record holds that state again, and so does the record that a call leaves.
use Rattle.std.proofs.Common.{◌≡◌, Bool, true, false, cond, ltb, sym, refl, ap, ◌∙◌}
use Rattle.cells.specs.Cells.{set_number, set_of}
use Rattle.cells.specs.declared.CharSet.{CharSet}
use Rattle.cells.specs.declared.CharSet.TheVariants.{Ascii, SpecialGraphics, Supplemental, Latin1}
use Rattle.device.specs.declared.charsets.Register.{Register}
use Rattle.device.specs.declared.charsets.Register.TheVariants.{G0, G1, G2, G3}
use Rattle.device.specs.declared.charsets.SingleShift.{SingleShift}
use Rattle.device.specs.declared.charsets.SingleShift.TheVariants.{NoShift, Ss2, Ss3}
use Rattle.parser.specs.declared.phases.Phase.{Phase}
use Rattle.parser.specs.declared.phases.Phase.TheVariants.{Ground, Escape, EscapeOne, EscapeTwo, EscapeIgnore}
use Rattle.parser.specs.declared.phases.Phase.TheVariants.{CsiEntry, CsiParam, CsiOne, CsiTwo, CsiIgnore, StringText}
use Rattle.steps.specs.declared.State.{State}
use Rattle.record.specs.declared.Terminal.{Terminal}
use Rattle.device.specs.Charsets.{register_number, register_of, shift_number, shift_of}
use Rattle.parser.specs.Phases.{phase_number}
use Rattle.parser.proofs.PhaseLaws.{phase-back}
use Rattle.record.specs.Numbers.{flag_number, is_on}
use Rattle.record.specs.Record.{record_of, core_of, line_of, state_of, named}

-- ---- numbers

flag-back : (b : Bool) → is_on (flag_number b) ≡ b
flag-back true = refl
flag-back false = refl

flag-named : (b : Bool) → ltb (flag_number b) 2 ≡ true
flag-named true = refl
flag-named false = refl

set_back : (s : CharSet) → set_of (set_number s) ≡ s
set_back Ascii = refl
set_back SpecialGraphics = refl
set_back Supplemental = refl
set_back Latin1 = refl

set-named : (s : CharSet) → ltb (set_number s) 4 ≡ true
set-named Ascii = refl
set-named SpecialGraphics = refl
set-named Supplemental = refl
set-named Latin1 = refl

register-back : (r : Register) → register_of (register_number r) ≡ r
register-back G0 = refl
register-back G1 = refl
register-back G2 = refl
register-back G3 = refl

register-named : (r : Register) → ltb (register_number r) 4 ≡ true
register-named G0 = refl
register-named G1 = refl
register-named G2 = refl
register-named G3 = refl

shift_back : (s : SingleShift) → shift_of (shift_number s) ≡ s
shift_back NoShift = refl
shift_back Ss2 = refl
shift_back Ss3 = refl

shift-named : (s : SingleShift) → ltb (shift_number s) 3 ≡ true
shift-named NoShift = refl
shift-named Ss2 = refl
shift-named Ss3 = refl

phase-named : (p : Phase) → ltb (phase_number p) 11 ≡ true
phase-named Ground = refl
phase-named Escape = refl
phase-named EscapeOne = refl
phase-named EscapeTwo = refl
phase-named EscapeIgnore = refl
phase-named CsiEntry = refl
phase-named CsiParam = refl
phase-named CsiOne = refl
phase-named CsiTwo = refl
phase-named CsiIgnore = refl
phase-named StringText = refl

-- ---- there and back

-- every number of a state's record names something
state-named : (s : State) → named (record_of s) ≡ true
unfolding named record_of
state-named s = simp (flag-named, set-named, register-named, shift-named, phase-named)

core-back : (s : State) → core_of (record_of s) s.displays.core.rows ≡ s.displays.core
unfolding core_of record_of
core-back s = simp (flag-back, set_back, register-back, shift_back, phase-back)

rows_back : (s : State) → cond (named (record_of s)) (record_of s).rows 0 ≡ s.displays.core.rows
unfolding record_of
rows_back s = ap (λ (t : Bool). cond t s.displays.core.rows 0) (state-named s)

line-back : (s : State) → line_of (record_of s).status ≡ s.displays.line
unfolding record_of
line-back s = simp (flag-back, set_back, register-back, shift_back)

pub state-back : (s : State) → state_of (record_of s) ≡ s
unfolding state_of record_of
state-back s = λ i. record {
  displays = record { core = (ap (core_of (record_of s)) (rows_back s) ∙ core-back s) i; line = line-back s i };
  tracked = record { changed = s.tracked.changed; flag = flag-back s.tracked.flag i };
}

-- ---- what a call leaves, refused or not

-- refused, the state as it was
pub state-left : (t : Terminal) (refused : Bool) (s : State) → state_of (cond refused t (record_of s)) ≡ cond refused (state_of t) s
state-left t true s = refl
state-left t false s = state-back s

-- which is the state returned, where a refused call returns it as it came
pub state-returned : (t : Terminal) (refused : Bool) (s : State) → (refused ≡ true → s ≡ state_of t) → state_of (cond refused t (record_of s)) ≡ s
state-returned t true s h = sym (h refl)
state-returned t false s h = state-back s
