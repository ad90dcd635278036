-- Character sets: designation to G0 to G3, GL and GR.
use Rattle.std.specs.Prelude.{Bool, true, false, cond, ℕ, eqb}
use Rattle.cells.specs.declared.CharSet.{CharSet}
use Rattle.cells.specs.declared.CharSet.TheVariants.{Ascii, SpecialGraphics, Supplemental, Latin1}
use Rattle.device.specs.declared.charsets.Register.{Register}
use Rattle.device.specs.declared.charsets.Register.TheVariants.{G0, G1, G2, G3}
use Rattle.device.specs.declared.charsets.SingleShift.{SingleShift}
use Rattle.device.specs.declared.charsets.SingleShift.TheVariants.{NoShift, Ss2, Ss3}
use Rattle.device.specs.declared.charsets.Sets.{Sets}

-- G0 and G1 ASCII, G2 and G3 DEC Supplemental, GL = G0, GR = G2
abbrev pub fresh_sets : Sets
fresh_sets = record { g0 = Ascii; g1 = Ascii; g2 = Supplemental; g3 = Supplemental; gl = G0; gr = G2 }

-- Latin-1 has 96 signs, the others 94
abbrev pub has96 : CharSet → Bool
has96 Ascii = false
has96 SpecialGraphics = false
has96 Supplemental = false
has96 Latin1 = true

abbrev pub set_in : Sets → Register → CharSet
set_in s G0 = s.g0
set_in s G1 = s.g1
set_in s G2 = s.g2
set_in s G3 = s.g3

abbrev pub designated : Sets → Register → CharSet → Sets
designated s G0 x = record { g0 = x; g1 = s.g1; g2 = s.g2; g3 = s.g3; gl = s.gl; gr = s.gr }
designated s G1 x = record { g0 = s.g0; g1 = x; g2 = s.g2; g3 = s.g3; gl = s.gl; gr = s.gr }
designated s G2 x = record { g0 = s.g0; g1 = s.g1; g2 = x; g3 = s.g3; gl = s.gl; gr = s.gr }
designated s G3 x = record { g0 = s.g0; g1 = s.g1; g2 = s.g2; g3 = x; gl = s.gl; gr = s.gr }

abbrev pub with_gl : Sets → Register → Sets
with_gl s r = record { g0 = s.g0; g1 = s.g1; g2 = s.g2; g3 = s.g3; gl = r; gr = s.gr }

abbrev pub with_gr : Sets → Register → Sets
with_gr s r = record { g0 = s.g0; g1 = s.g1; g2 = s.g2; g3 = s.g3; gl = s.gl; gr = r }

-- the set that 20 to 7F uses: G2 or G3 if that single shift is pending, else GL's
abbrev pub left_set : Sets → SingleShift → CharSet
left_set s NoShift = set_in s s.gl
left_set s Ss2 = s.g2
left_set s Ss3 = s.g3

-- the set that A0 to FF uses
abbrev pub right_set : Sets → CharSet
right_set s = set_in s s.gr

-- ---- registers and shifts as numbers, and back

abbrev pub register_number : Register → ℕ
register_number G0 = 0
register_number G1 = 1
register_number G2 = 2
register_number G3 = 3

abbrev pub register_of : ℕ → Register
register_of n = cond (eqb n 0) G0 (cond (eqb n 1) G1 (cond (eqb n 2) G2 G3))

abbrev pub shift_number : SingleShift → ℕ
shift_number NoShift = 0
shift_number Ss2 = 1
shift_number Ss3 = 2

abbrev pub shift_of : ℕ → SingleShift
shift_of n = cond (eqb n 0) NoShift (cond (eqb n 1) Ss2 Ss3)
