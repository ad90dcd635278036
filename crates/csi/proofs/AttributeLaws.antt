-- A list of attributes does to a cell what its values do one after the other: those of DECCARA what SGR's do to the rendition, those of DECRARA each a flip.
use Rattle.std.proofs.Common.{◌≡◌, ℕ, Bool, true, false, cond, not, eqb, List, [], ◌∷◌, Option, None, refl, ap, ◌∙◌, ne_eqb}
use Rattle.ground.specs.Folds.{folded}
use Rattle.ground.proofs.TestLaws.{at-number}
use Rattle.cells.specs.declared.Rendition.{Rendition}
use Rattle.cells.specs.declared.Cell.{Cell}
use Rattle.cells.specs.declared.Setting.{Setting}
use Rattle.cells.specs.declared.Setting.TheVariants.{Same, On, Off, Flipped}
use Rattle.cells.specs.declared.Styling.{Styling}
use Rattle.cells.specs.declared.CellChange.TheVariants.{Restyle}
use Rattle.cells.specs.Cells.{unpacked, styling_number, set_by, styled, changed_by}
use Rattle.cells.proofs.CellLaws.{styling-back, restyled-back}
use Rattle.rectangles.specs.Attributes.{flipped, change_by, reverse_by, one_more, listed_styling}
use Rattle.csi.specs.Sequences.{with_bold, with_underline, with_blink, with_reverse, rendered}

-- one value of DECRARA
abbrev pub turned : Rendition → ℕ → Rendition
turned r v =
    cond (eqb v 0) (record { bold = not r.bold; underline = not r.underline; blink = not r.blink; reverse = not r.reverse })
    (cond (eqb v 1) (with_bold r (not r.bold))
    (cond (eqb v 4) (with_underline r (not r.underline))
    (cond (eqb v 5) (with_blink r (not r.blink))
    (cond (eqb v 7) (with_reverse r (not r.reverse)) r))))

-- ---- one value more

change-one : (m : Option Styling) (r : Rendition) (v : ℕ) → styled (listed_styling (one_more false m v)) r ≡ rendered (styled (listed_styling m) r) v
unfolding change_by rendered
change-one m r v =
    let P : ℕ → Type 0 = λ v. styled (listed_styling (one_more false m v)) r ≡ rendered (styled (listed_styling m) r) v in
    at-number P v 0 refl (λ a. at-number P v 1 refl (λ b. at-number P v 4 refl (λ c. at-number P v 5 refl (λ d. at-number P v 7 refl
    (λ e. at-number P v 22 refl (λ f. at-number P v 24 refl (λ g. at-number P v 25 refl (λ h. at-number P v 27 refl
    (λ i. rw (ne_eqb v 0 a, ne_eqb v 1 b, ne_eqb v 4 c, ne_eqb v 5 d, ne_eqb v 7 e, ne_eqb v 22 f, ne_eqb v 24 g, ne_eqb v 25 h, ne_eqb v 27 i))))))))))

flip_one : (x : Setting) (b : Bool) → set_by (flipped x) b ≡ not (set_by x b)
flip_one Same b = refl
flip_one On b = refl
flip_one Off b = refl
flip_one Flipped true = refl
flip_one Flipped false = refl

reverse-one : (m : Option Styling) (r : Rendition) (v : ℕ) → styled (listed_styling (one_more true m v)) r ≡ turned (styled (listed_styling m) r) v
unfolding reverse_by
reverse-one m r v =
    let s = listed_styling m in
    let bold = flip_one s.bold r.bold in
    let underline = flip_one s.underline r.underline in
    let blink = flip_one s.blink r.blink in
    let reverse = flip_one s.reverse r.reverse in
    let P : ℕ → Type 0 = λ v. styled (listed_styling (one_more true m v)) r ≡ turned (styled (listed_styling m) r) v in
    at-number P v 0 (rw (bold, underline, blink, reverse)) (λ a. at-number P v 1 (rw bold) (λ b. at-number P v 4 (rw underline)
    (λ c. at-number P v 5 (rw blink) (λ d. at-number P v 7 (rw reverse)
    (λ e. at-number P v 22 refl (λ f. at-number P v 24 refl (λ g. at-number P v 25 refl (λ h. at-number P v 27 refl
    (λ i. rw (ne_eqb v 0 a, ne_eqb v 1 b, ne_eqb v 4 c, ne_eqb v 5 d, ne_eqb v 7 e, ne_eqb v 22 f, ne_eqb v 24 g, ne_eqb v 25 h, ne_eqb v 27 i))))))))))

-- ---- a list

abbrev one : Bool → Rendition → ℕ → Rendition
one reversing r v = cond reversing (turned r v) (rendered r v)

more-one : (reversing : Bool) (m : Option Styling) (r : Rendition) (v : ℕ)
    → styled (listed_styling (one_more reversing m v)) r ≡ one reversing (styled (listed_styling m) r) v
more-one true m r v = reverse-one m r v
more-one false m r v = change-one m r v

in_order : (reversing : Bool) (vs : List ℕ) (m : Option Styling) (r : Rendition)
    → styled (listed_styling (folded (one_more reversing) m vs)) r ≡ folded (one reversing) (styled (listed_styling m) r) vs
in_order reversing [] m r = refl
in_order reversing (v ∷ vs) m r =
    in_order reversing vs (one_more reversing m v) r ∙ ap (λ (x : Rendition). folded (one reversing) x vs) (more-one reversing m r v)

-- the cell with other attributes
abbrev with_rendition : Cell → Rendition → Cell
with_rendition c r = record c { rendition = r }

-- what the edit of a list makes of any word
changed-in-order : (reversing : Bool) (vs : List ℕ) (w : ℕ)
    → unpacked (changed_by (Restyle (styling_number (listed_styling (folded (one_more reversing) None vs)))) w)
    ≡ with_rendition (unpacked w) (folded (one reversing) (unpacked w).rendition vs)
changed-in-order reversing vs w =
    let s = listed_styling (folded (one_more reversing) None vs) in
    rw (styling-back s) (restyled-back s w ∙ ap (with_rendition (unpacked w)) (in_order reversing vs None (unpacked w).rendition))

-- DECCARA: the rendition is what SGR would make of it by the same values, and all else stays
pub changes-in-order : (vs : List ℕ) (w : ℕ)
    → unpacked (changed_by (Restyle (styling_number (listed_styling (folded (one_more false) None vs)))) w)
    ≡ with_rendition (unpacked w) (folded rendered (unpacked w).rendition vs)
changes-in-order = changed-in-order false

-- DECRARA: one flip after the other
pub reverses-in-order : (vs : List ℕ) (w : ℕ)
    → unpacked (changed_by (Restyle (styling_number (listed_styling (folded (one_more true) None vs)))) w)
    ≡ with_rendition (unpacked w) (folded turned (unpacked w).rendition vs)
reverses-in-order = changed-in-order true
