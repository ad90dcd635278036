-- Bytes one after the other: the laws of a run over appended input, and what a step keeps.
use Rattle.std.proofs.Common.{◌≡◌, ℕ, suc, ◌+◌, ◌-◌, ◌*◌, ◌^◌, ◌<◌, ◌≤◌, ◌||◌, ltb, List, [], ◌∷◌, ◌++◌, length, take, sym, refl, ap, ◌∙◌, append_assoc, zero-le, arith, length-append, pow_pos, ltb-false, le-ltb, lt-ltb}
use mathlib.Core.Bool.{or-false}
use lib.Bits.{or_lt}
use Rattle.page.specs.declared.Edit.{Edit}
use Rattle.page.specs.declared.Edit.TheVariants.{Keep, Put, InsertCells, DeleteCells, ScrollUp, ScrollDown}
use Rattle.page.specs.declared.Edit.TheVariants.{FillRange, ChangeRange, FillRectangle, ChangeRectangle, CopyRectangle}
use Rattle.cells.specs.Rows.{row}
use Rattle.cells.specs.Sets.{has_bit, added, changed, changed_in}
use Rattle.page.specs.Edits.{applied, Within}
use Rattle.cells.proofs.Differing.{differs-self}
use Rattle.cells.proofs.BitLaws.{bits-ext, bits-own, added-lt}
use Rattle.cells.proofs.RowLaws.{changed-in}
use Rattle.ground.proofs.TestLaws.{either}
use Rattle.page.proofs.EditLaws.{keep-applied, length-applied}
use Rattle.core_state.specs.declared.Displays.{Displays}
use Rattle.dispatch.specs.Displays.{Edits, carried_out, sends_of}
use Rattle.wholeness.proofs.SoundDisplays.{SoundCarried, carried-out-sound}
use Rattle.steps.specs.Ready.{Ready}
use Rattle.steps.specs.Steps.{Screen, Marked, edited, edited_by, acted, stepped, ran, ran_displays, sent, readable}

-- ---- appended input

pub ran_append : (d : Screen) (xs ys : List ℕ) → ran d (xs ++ ys) ≡ ran (ran d xs) ys
unfolding ran
ran_append d [] ys = refl
ran_append d (x ∷ xs) ys = ran_append (stepped d x) xs ys

pub sent-append : (k : Displays) (xs ys : List ℕ) → sent k (xs ++ ys) ≡ sent k xs ++ sent (ran_displays k xs) ys
unfolding sent ran_displays
sent-append k [] ys = refl
sent-append k (x ∷ xs) ys = rw (sent-append (carried_out k x).displays xs ys, append_assoc)

pub stepped-displays : (d : Screen) (b : ℕ) → (stepped d b).displays ≡ (carried_out d.displays b).displays
unfolding stepped acted
stepped-displays d b = refl

-- the displays of a run depend on no cell
pub ran-displays : (d : Screen) (xs : List ℕ) → (ran d xs).displays ≡ ran_displays d.displays xs
unfolding ran ran_displays
ran-displays d [] = refl
ran-displays d (x ∷ xs) = ran-displays (stepped d x) xs ∙ ap (λ (k : Displays). ran_displays k xs) (stepped-displays d x)

-- ---- how much is read

pub readable-fits : (room : ℕ) (k : Displays) (b : ℕ) (bs : List ℕ) → length (sends_of k b) ≤ room
    → readable room k (b ∷ bs) ≡ suc (readable (room - length (sends_of k b)) (carried_out k b).displays bs)
unfolding readable
readable-fits room k b bs h = rw (le-ltb room (length (sends_of k b)) h)

pub readable-full : (room : ℕ) (k : Displays) (b : ℕ) (bs : List ℕ) → room < length (sends_of k b) → readable room k (b ∷ bs) ≡ 0
unfolding readable
readable-full room k b bs h = rw (lt-ltb room (length (sends_of k b)) h)

-- what is sent fits
pub sent-fits : (room : ℕ) (k : Displays) (bs : List ℕ) → length (sent k (take (readable room k bs) bs)) ≤ room
unfolding sent readable
sent-fits room k [] = zero-le
sent-fits room k (b ∷ bs) =
    either (λ (n : ℕ). length (sent k (take n (b ∷ bs))) ≤ room) (ltb room (length (sends_of k b))) (λ _. zero-le)
    (λ e. let l = ltb-false room (length (sends_of k b)) e in rw length-append (omega (arith, sent-fits (room - length (sends_of k b)) (carried_out k b).displays bs)))

-- all is read where all that is sent fits
pub reads_all : (room : ℕ) (k : Displays) (bs : List ℕ) → length (sent k bs) ≤ room → readable room k bs ≡ length bs
unfolding sent readable
reads_all room k [] h = refl
reads_all room k (b ∷ bs) h =
    let l : length (sends_of k b) + length (sent (carried_out k b).displays bs) ≤ room = rw length-append at h in
    let f : length (sends_of k b) ≤ room = omega arith in
    let m : length (sent (carried_out k b).displays bs) ≤ room - length (sends_of k b) = omega arith in
    rw (le-ltb room (length (sends_of k b)) f, reads_all (room - length (sends_of k b)) (carried_out k b).displays bs m)

pub readable-most : (room : ℕ) (k : Displays) (bs : List ℕ) → readable room k bs ≤ length bs
unfolding readable
readable-most room k [] = zero-le
readable-most room k (b ∷ bs) =
    either (λ (n : ℕ). n ≤ suc (length bs)) (ltb room (length (sends_of k b))) (λ _. zero-le)
    (λ _. omega (arith, readable-most (room - length (sends_of k b)) (carried_out k b).displays bs))

-- ---- one step

-- no edit, and no row is added
added_none : (r m : ℕ) (p : List ℕ) → m < 2 ^ r → added r m (changed p p) ≡ m
unfolding added
added_none r m p l =
    bits-ext r (λ k. has_bit m k || changed p p k) (has_bit m) (λ k h. rw (differs-self (row p k)) (or-false (has_bit m k)))
    ∙ bits-own r m l

-- what holds where nothing is edited, and of every edit that is made, holds of a step
by-edit : (r : ℕ) (m : Marked) (P : Edit → Marked → Type 0) → P Keep m
    → ((e : Edit) → let q = applied r e m.page in P e (record { page = q; changed = added r m.changed (changed_in r m.page q) }))
    → (e : Edit) → P e (edited r e m)
by-edit r m P k f Keep = k
by-edit r m P k f (Put a b c) = f (Put a b c)
by-edit r m P k f (InsertCells a b c d w) = f (InsertCells a b c d w)
by-edit r m P k f (DeleteCells a b c d) = f (DeleteCells a b c d)
by-edit r m P k f (ScrollUp a b c d n) = f (ScrollUp a b c d n)
by-edit r m P k f (ScrollDown a b c d n) = f (ScrollDown a b c d n)
by-edit r m P k f (FillRange a b c) = f (FillRange a b c)
by-edit r m P k f (ChangeRange a b x) = f (ChangeRange a b x)
by-edit r m P k f (FillRectangle a b c d w) = f (FillRectangle a b c d w)
by-edit r m P k f (ChangeRectangle a b c d x) = f (ChangeRectangle a b c d x)
by-edit r m P k f (CopyRectangle a b c d i j) = f (CopyRectangle a b c d i j)

pub edited-page : (r : ℕ) (e : Edit) (m : Marked) → length m.page ≡ 80 * r → (edited r e m).page ≡ applied r e m.page
edited-page r e m h = by-edit r m (λ e x. x.page ≡ applied r e m.page) (sym (keep-applied r m.page h)) (λ e. refl) e

pub edited-changed : (r : ℕ) (e : Edit) (m : Marked) → length m.page ≡ 80 * r → m.changed < 2 ^ r → Within r e
    → (edited r e m).changed ≡ added r m.changed (changed m.page (applied r e m.page))
edited-changed r e m h l w =
    by-edit r m (λ e x. Within r e → x.changed ≡ added r m.changed (changed m.page (applied r e m.page)))
    (λ _. sym (ap (λ (q : List ℕ). added r m.changed (changed m.page q)) (keep-applied r m.page h) ∙ added_none r m.changed m.page l))
    (λ e v. ap (added r m.changed) (changed-in r m.page (applied r e m.page) h (length-applied r e m.page h v)))
    e w

-- ---- a byte

abbrev pub ReadyAt : Screen → Type 0
ReadyAt d = Ready (record { displays = d.displays; tracked = d.tracked }) d.buffers.page

-- a page of r rows, with changed rows among them
pub record MarkedFits (r : ℕ) (m : Marked) : Type 0 where
  pub size : length m.page ≡ 80 * r
  pub few : m.changed < 2 ^ r

marked-edited : (r : ℕ) (e : Edit) (m : Marked) → MarkedFits r m → Within r e → MarkedFits r (edited r e m)
marked-edited r e m b w = record {
  size = ap length (edited-page r e m b.size) ∙ length-applied r e m.page b.size w;
  few = rw (edited-changed r e m b.size b.few w) (added-lt r m.changed (changed m.page (applied r e m.page)));
}

-- both edits leave a page of as many rows
pub edited-fits : (r : ℕ) (x : Edits) (p : List ℕ) → length p ≡ 80 * r → Within r x.first → Within r x.second → MarkedFits r (edited_by r x p)
edited-fits r x p h f s = marked-edited r x.second _ (marked-edited r x.first _ (record { size = h; few = pow_pos r }) f) s

module _ (d : Screen) (b : ℕ) (k : ReadyAt d) where
  pub step-rows : (stepped d b).displays.core.rows ≡ d.displays.core.rows
  unfolding stepped acted
  step-rows = (carried-out-sound d.displays b k.whole.displays).rows

  pub ready-step : ReadyAt (stepped d b)
  unfolding stepped acted
  ready-step =
      let n = d.displays.core.rows in
      let x = carried_out d.displays b in
      let s : SoundCarried n x = carried-out-sound d.displays b k.whole.displays in
      let end = edited-fits n x.page d.buffers.page k.size s.page-first s.page-second in
      record {
        whole = record {
          displays = s.whole;
          size = rw s.rows k.whole.size;
          changed = rw s.rows (or_lt n d.tracked.changed (edited_by n x.page d.buffers.page).changed k.whole.changed end.few);
        };
        size = rw s.rows end.size;
      }

  pub step-long : length (stepped d b).buffers.page ≡ length d.buffers.page
  step-long = ready-step.size ∙ ap (λ (n : ℕ). 80 * n) step-rows ∙ sym k.size

  -- and so is the line's
  pub line-long : length d.buffers.line ≡ 80 → length (stepped d b).buffers.line ≡ 80
  unfolding stepped acted
  line-long h =
      let x = carried_out d.displays b in
      let s = carried-out-sound d.displays b k.whole.displays in
      (edited-fits 1 x.line d.buffers.line h s.line_first s.line_second).size

pub ready-ran : (d : Screen) (bs : List ℕ) → ReadyAt d → ReadyAt (ran d bs)
unfolding ran
ready-ran d [] k = k
ready-ran d (b ∷ bs) k = ready-ran (stepped d b) bs (ready-step d b k)

pub ran-long : (d : Screen) (bs : List ℕ) → ReadyAt d → length (ran d bs).buffers.page ≡ length d.buffers.page
unfolding ran
ran-long d [] k = refl
ran-long d (b ∷ bs) k = ran-long (stepped d b) bs (ready-step d b k) ∙ step-long d b k

pub line-ran : (d : Screen) (bs : List ℕ) → ReadyAt d → length d.buffers.line ≡ 80 → length (ran d bs).buffers.line ≡ 80
unfolding ran
line-ran d [] k h = h
line-ran d (b ∷ bs) k h = line-ran (stepped d b) bs (ready-step d b k) (line-long d b k h)
