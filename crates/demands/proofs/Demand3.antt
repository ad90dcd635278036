-- Demand 3: every proper list of calls leaves the model's page and line and shows what the model shows. One relation between the world and the
-- model, one lemma for each kind of call, one induction.
use Rattle.std.proofs.Common.{◌≡◌, ℕ, zero, suc, ◌+◌, ◌-◌, ◌*◌, ◌%◌, ◌^◌, ◌<◌, ◌≤◌, Bool, true, false, cond, not, ◌&&◌, ◌||◌, eqb, List, [], ◌∷◌, ◌++◌, length, take, drop, sym, refl, ap, ◌∙◌, subst, ap₂, ⊎_elim, append-nil, lt_of_lt_of_le, le_of_suc-le-suc, add-zero, eq-or-lt_of_le, arith, take-append-drop, take_all, drop-drop, pow_mono, eq-eqb, ne_eqb, eqb-true}
use mathlib.Core.Bool.{or-false, or-true, or_assoc, and-false, and-true}
use native.Mathlib.Nat.{div-eq_of_lt}
use lib.Bits.{bit_or}
use lib.ListN.{length-replicate}
use borrow.Author.Tests.{not-false}
use Rattle.page.specs.declared.Edit.{Edit}
use Rattle.cells.specs.Cells.{bit, blank}
use Rattle.cells.specs.Rows.{row}
use Rattle.cells.specs.Sets.{bits_of, has_bit, changed}
use Rattle.page.specs.Edits.{applied, Within}
use Rattle.cells.proofs.BitLaws.{bits_at, bits_none, bits-lt, bits-or, bits-ext, added-bits, size-ext}
use Rattle.cells.proofs.RowLaws.{joined-ext, joined-rows}
use Rattle.page.proofs.EditLaws.{length-applied, unchanged}
use Rattle.core_state.specs.Whole.{WholeDisplays}
use Rattle.dispatch.specs.Displays.{Edits, Carried, carried_out}
use Rattle.ground.proofs.TestLaws.{or_left, or_right, either}
use Rattle.wholeness.proofs.SoundDisplays.{SoundCarried, carried-out-sound, fresh-line}
use Rattle.wholeness.proofs.Wholeness.{sized_rows, fresh-rows, fresh-whole}
use Rattle.steps.specs.declared.State.{State}
use Rattle.steps.specs.declared.Tracked.{Tracked}
use Rattle.steps.specs.Steps.{Buffers, buffers, Screen, Marked, edited, edited_by, acted, stepped, ran, sent, readable}
use Rattle.terminal.specs.Start.{fresh, blank_buffers, started}
use Rattle.terminal.specs.Ask.{ask_done}
use Rattle.steps.proofs.StepLaws.{edited-page, edited-changed, sent-fits}
use Rattle.terminal.proofs.CallLaws.{Taken, fed-taken, fed-left, fed-processed, fitting-number, asked-whole, asked-done}
use Rattle.demands.specs.Model as M
use Rattle.demands.specs.Model.{Model, Call, feeding, asking, reading, rowing, Seen, cell_seen, row_seen, row_list, joins, byte, bytes}
use Rattle.demands.specs.World as W
use Rattle.demands.specs.World.{World, Item, Which, the_page, the_line, Lent, Loan, entire, part, other, is_listed, patched, copied, Proper, Given}
use Rattle.demands.specs.Statements.{Agrees, Demand3}
use Rattle.demands.proofs.Demand1.{start-is-exact, read-is-exact, row-hands-back, front}

-- ---- the world that belongs to a model

abbrev tracked_of : ℕ → Model → Tracked
tracked_of r m = record { changed = bits_of r m.rows; flag = m.flag }

abbrev screen_of : ℕ → Model → Screen
screen_of r m = record { displays = m.displays; buffers = m.buffers; tracked = tracked_of r m }

abbrev world_of : ℕ → Model → Buffers → World
world_of r m copy = record { buffers = m.buffers; state = record { displays = m.displays; tracked = tracked_of r m }; copy = copy }

-- what is kept of a model of r rows and the copy beside it: rows outside the set are the same in both, and the line where the flag is unset
record Kept (r : ℕ) (m : Model) (copy : Buffers) : Type 0 where
  rows : m.displays.core.rows ≡ r
  whole : WholeDisplays m.displays
  size : length m.buffers.page ≡ 80 * r
  line-size : length m.buffers.line ≡ 80
  right : (k : ℕ) → k < r → m.rows k ≡ false → row copy.page k ≡ row m.buffers.page k
  line-right : m.flag ≡ false → copy.line ≡ m.buffers.line

-- ---- a byte's two steps, of the page and of the line, which is a page of one row

-- the cells before, between and after them are as many
record Sizes (n : ℕ) (x : Edits) (p : List ℕ) : Type 0 where
  before : length p ≡ 80 * n
  between : length (applied n x.first p) ≡ 80 * n
  after : length (applied n x.second (applied n x.first p)) ≡ 80 * n
  first : Within n x.first
  second : Within n x.second

sizes : (n : ℕ) (x : Edits) (p : List ℕ) → length p ≡ 80 * n → Within n x.first → Within n x.second → Sizes n x p
sizes n x p h f s =
    let g = length-applied n x.first p h f in
    record { before = h; between = g; after = length-applied n x.second (applied n x.first p) g s; first = f; second = s }

-- a step of the code's definition adds the rows that join the model's set
step-joins : (n : ℕ) (e : Edit) (p : List ℕ) (s : ℕ → Bool) → length p ≡ 80 * n → Within n e
    → edited n e (record { page = p; changed = bits_of n s }) ≡ record { page = applied n e p; changed = bits_of n (joins s p (applied n e p)) }
step-joins n e p s h w =
    let m : Marked = record { page = p; changed = bits_of n s } in
    ap₂ (λ (q : List ℕ) (c : ℕ). record { page = q; changed = c }) (edited-page n e m h)
    (edited-changed n e m h (bits-lt n s) w ∙ added-bits n s (changed p (applied n e p)))

-- the rows that join an empty set in two steps
abbrev joins_twice : List ℕ → List ℕ → List ℕ → ℕ → Bool
joins_twice p q u = joins (joins (λ k. false) p q) q u

edits-join : (n : ℕ) (x : Edits) (p : List ℕ) → Sizes n x p
    → let q = applied n x.first p in let u = applied n x.second q in
    edited_by n x p ≡ record { page = u; changed = bits_of n (joins_twice p q u) }
edits-join n x p z =
    let q : List ℕ = applied n x.first p in
    let none : ℕ → Bool = λ (k : ℕ). false in
    let one : edited n x.first (record { page = p; changed = 0 }) ≡ record { page = q; changed = bits_of n (joins none p q) } =
    ap (λ (i : ℕ). edited n x.first (record { page = p; changed = i })) (sym (bits_none n)) ∙ step-joins n x.first p none z.before z.first in
    ap (edited n x.second) one ∙ step-joins n x.second q (joins none p q) z.between z.second

-- what a byte adds to a set, step by step
joins-once : (r n : ℕ) (s : ℕ → Bool) (p q u : List ℕ) → n ≡ r → bit_or (bits_of r s) (bits_of n (joins_twice p q u)) ≡ bits_of r (joins (joins s p q) q u)
joins-once r n s p q u e =
    rw e (bits-or r s (joins_twice p q u) ∙ bits-ext r _ _ (λ k l. sym (or_assoc (s k) (changed p q k) (changed q u k))))

-- and to the flag, which is the set of one row
one_bit : (s : ℕ → Bool) → not (eqb (bits_of 1 s) 0) ≡ s 0
unfolding bits_of
one_bit s = go (s 0)
  where
    go : (t : Bool) → not (eqb (bit t * 2 ^ 0 + 0) 0) ≡ t
    go true = refl
    go false = refl

or-last : (f a b : Bool) → ((a || b) || f) ≡ ((f || a) || b)
or-last true a b = or-true (a || b)
or-last false a b = or-false (a || b)

flag-once : (f : Bool) (p q u : List ℕ) → (not (eqb (bits_of 1 (joins_twice p q u)) 0) || f) ≡ ((f || changed p q 0) || changed q u 0)
flag-once f p q u = ap (λ (t : Bool). t || f) (one_bit (joins_twice p q u)) ∙ or-last f (changed p q 0) (changed q u 0)

-- ---- bytes

module _ (r : ℕ) (m : Model) (copy : Buffers) (b : ℕ) (K : Kept r m copy) where
  abbrev does : Carried
  does = carried_out m.displays b

  sound : SoundCarried m.displays.core.rows does
  sound = carried-out-sound m.displays b K.whole

  page-sizes : Sizes m.displays.core.rows does.page m.buffers.page
  page-sizes =
      sizes m.displays.core.rows does.page m.buffers.page (K.size ∙ ap (λ (i : ℕ). 80 * i) (sym K.rows))
      sound.page-first sound.page-second

  line-sizes : Sizes 1 does.line m.buffers.line
  line-sizes = sizes 1 does.line m.buffers.line K.line-size sound.line_first sound.line_second

  -- a byte of the code's definition is a byte of the model
  byte-screen : stepped (screen_of r m) b ≡ screen_of r (byte m b)
  unfolding stepped acted byte
  byte-screen =
      let n : ℕ = m.displays.core.rows in
      let p : List ℕ = applied n does.page.first m.buffers.page in
      let l : List ℕ = applied 1 does.line.first m.buffers.line in
      rw (
        edits-join n does.page m.buffers.page page-sizes,
        edits-join 1 does.line m.buffers.line line-sizes,
        joins-once r n m.rows m.buffers.page p (applied n does.page.second p) K.rows,
        flag-once m.flag m.buffers.line l (applied 1 does.line.second l),
      )

-- a row outside the set after a step was outside before it, and is as it was
kept_step : (r : ℕ) (s : ℕ → Bool) (copy p q : List ℕ) → length p ≡ 80 * r → length q ≡ 80 * r
    → ((k : ℕ) → k < r → s k ≡ false → row copy k ≡ row p k) → (k : ℕ) → k < r → joins s p q k ≡ false → row copy k ≡ row q k
kept_step r s copy p q hp hq h k l e = h k l (or_left (s k) (changed p q k) e) ∙ unchanged r p q k hp hq l (or_right (s k) (changed p q k) e)

-- a flag unset after a step was unset before it, and the line is as it was
line_step : (flag : Bool) (copy p q : List ℕ) → length p ≡ 80 → length q ≡ 80
    → (flag ≡ false → copy ≡ p) → (flag || changed p q 0) ≡ false → copy ≡ q
line_step flag copy p q hp hq h e =
    h (or_left flag (changed p q 0) e)
    ∙ sym (take_all 80 p (omega arith)) ∙ unchanged 1 p q 0 hp hq (omega arith) (or_right flag (changed p q 0) e) ∙ take_all 80 q (omega arith)

kept_byte : (r : ℕ) (m : Model) (copy : Buffers) (b : ℕ) → Kept r m copy → Kept r (byte m b) copy
unfolding byte
kept_byte r m copy b K =
    let n : ℕ = m.displays.core.rows in
    let x : Carried = carried_out m.displays b in
    let p : List ℕ = applied n x.page.first m.buffers.page in
    let l : List ℕ = applied 1 x.line.first m.buffers.line in
    let s = sound r m copy b K in
    let z = page-sizes r m copy b K in
    let y = line-sizes r m copy b K in
    let up = ap (λ (i : ℕ). 80 * i) K.rows in
    record {
      rows = s.rows ∙ K.rows;
      whole = s.whole;
      size = z.after ∙ up;
      line-size = y.after;
      right = kept_step r (joins m.rows m.buffers.page p) copy.page p (applied n x.page.second p) (z.between ∙ up) (z.after ∙ up)
          (kept_step r m.rows copy.page m.buffers.page p K.size (z.between ∙ up) K.right);
      line-right = line_step (m.flag || changed m.buffers.line l 0) copy.line l (applied 1 x.line.second l) y.between y.after
          (line_step m.flag copy.line m.buffers.line l K.line-size y.between K.line-right);
    }

bytes-screen : (r : ℕ) (m : Model) (copy : Buffers) (bs : List ℕ) → Kept r m copy → ran (screen_of r m) bs ≡ screen_of r (bytes m bs)
unfolding ran bytes
bytes-screen r m copy [] K = refl
bytes-screen r m copy (b ∷ bs) K = ap (λ (d : Screen). ran d bs) (byte-screen r m copy b K) ∙ bytes-screen r (byte m b) copy bs (kept_byte r m copy b K)

kept-bytes : (r : ℕ) (m : Model) (copy : Buffers) (bs : List ℕ) → Kept r m copy → Kept r (bytes m bs) copy
unfolding bytes
kept-bytes r m copy [] K = K
kept-bytes r m copy (b ∷ bs) K = kept-bytes r (byte m b) copy bs (kept_byte r m copy b K)

-- ---- one call that is not refused, given the newest state, her page and her line

-- the relation: the world is the model's, with a copy that the set keeps right
record Related (r : ℕ) (w : World) (m : Model) : Type 0 where
  copy : Buffers
  is : w ≡ world_of r m copy
  kept : Kept r m copy

record Matches (r : ℕ) (w : World) (m : Model) (a b : Seen) : Type 0 where
  related : Related r w m
  same : a ≡ b

row-list-ext : (n : ℕ) (s t : ℕ → Bool) → ((k : ℕ) → k < n → s k ≡ t k) → row_list n s ≡ row_list n t
unfolding row_list
row-list-ext zero s t h = refl
row-list-ext (suc n) s t h = rw (row-list-ext n s t (λ k l. h k (omega arith)), h n (omega arith))

-- a row past those that a number has room for has no bit in it
bit_past : (n m k : ℕ) → m < 2 ^ n → n ≤ k → has_bit m k ≡ false
bit_past n m k l h = ap (λ (x : ℕ). eqb (x % 2) 1) (div-eq_of_lt (lt_of_lt_of_le l (pow_mono h)))

list-past : (n d : ℕ) (s : ℕ → Bool) → ((k : ℕ) → n ≤ k → s k ≡ false) → row_list (n + d) s ≡ row_list n s
unfolding row_list
list-past n zero s h = rw add-zero
list-past n (suc d) s h =
    let e : n + suc d ≡ suc (n + d) = omega arith in
    rw (e, h (n + d) (omega arith), append-nil) (list-past n d s h)

-- so the 64 bits list the set's rows
list-64 : (r : ℕ) (s : ℕ → Bool) → r ≤ 64 → row_list 64 (has_bit (bits_of r s)) ≡ row_list r s
list-64 r s l =
    let e : 64 ≡ r + (64 - r) = omega arith in
    rw (e, list-past r (64 - r) (has_bit (bits_of r s)) (λ k h. bit_past r (bits_of r s) k (bits-lt r s) h))
    (row-list-ext r (has_bit (bits_of r s)) s (bits_at r s))

listed-last : (xs : List ℕ) (t : Bool) (r k : ℕ) → is_listed (xs ++ cond t (r ∷ []) []) k ≡ (is_listed xs k || (t && eqb r k))
listed-last [] true r k = or-false (eqb r k)
listed-last [] false r k = refl
listed-last (x ∷ xs) t r k = rw (listed-last xs t r k, or_assoc)

listed_above : (n : ℕ) (s : ℕ → Bool) (k : ℕ) → n ≤ k → is_listed (row_list n s) (k + 1) ≡ false
unfolding row_list
listed_above zero s k l = refl
listed_above (suc n) s k l =
    rw (listed-last (row_list n s) (s n) (suc n) (k + 1), listed_above n s k (omega arith), ne_eqb (suc n) (k + 1) (omega arith)) (and-false (s n))

-- a row of the set is listed, and no other
listed-row : (n : ℕ) (s : ℕ → Bool) (k : ℕ) → k < n → is_listed (row_list n s) (k + 1) ≡ s k
unfolding row_list
listed-row zero s k l = absurd (omega arith)
listed-row (suc n) s k l =
    rw (listed-last (row_list n s) (s n) (suc n) (k + 1))
    (⊎_elim
    (λ (e : k ≡ n). rw (listed_above n s k (omega arith), eq-eqb (suc n) (k + 1) (omega arith), e) (and-true (s n)))
    (λ (h : k < n). rw (listed-row n s k h, ne_eqb (suc n) (k + 1) (omega arith), and-false) (or-false (s k)))
    (eq-or-lt_of_le (le_of_suc-le-suc l)))

-- both of hers
abbrev pub hers : Loan
hers = record { page = entire the_page; line = entire the_line }

module _ (r : ℕ) (m : Model) (copy : Buffers) (K : Kept r m copy) where
  abbrev own : State
  own = record { displays = m.displays; tracked = tracked_of r m }

  abbrev world : World
  world = world_of r m copy

  feeding-matches : (i o : List ℕ) → W.refuses world own hers (feeding i o) ≡ false
      → Matches r (W.world_after world own hers (feeding i o)) (M.after_call m (feeding i o))
      (W.seen_of world own hers (feeding i o)) (M.shows m (feeding i o))
  feeding-matches i o h =
      let t : Taken own m.buffers = fed-taken own m.buffers i o h in
      let run = fed-processed own m.buffers i o t.whole t.sizes in
      let n : ℕ = readable (length o) m.displays i in
      let out : List ℕ = sent m.displays (take n i) in
      record {
        related = record {
          copy = copy;
          is = rw (h, run, bytes-screen r m copy (M.taken m i o) K);
          kept = kept-bytes r m copy (M.taken m i o) K;
        };
        same = rw (run, fitting-number, front out o (sent-fits (length o) m.displays i));
      }

  -- the rows that an asking lists
  listed-all : row_list 64 (has_bit (bits_of r m.rows)) ≡ row_list r m.rows
  listed-all = list-64 r m.rows (omega (arith, K.whole.core.parts.bounds.count.high, K.rows))

  -- the copy with these rows replaced is the page
  patched-right : patched r (row_list r m.rows) copy.page m.buffers.page ≡ m.buffers.page
  patched-right =
      joined-ext r (λ k. cond (is_listed (row_list r m.rows) (k + 1)) (row m.buffers.page k) (row copy.page k)) (row m.buffers.page) each
      ∙ joined-rows r m.buffers.page K.size
    where
      each : (k : ℕ) → k < r → cond (is_listed (row_list r m.rows) (k + 1)) (row m.buffers.page k) (row copy.page k) ≡ row m.buffers.page k
      each k l = rw (listed-row r m.rows k l) (either (λ x. x ≡ row m.buffers.page k) (m.rows k) (λ _. refl) (λ e. K.right k l e))

  -- and the line, replaced where the flag is set, is the line
  line-patched : cond m.flag m.buffers.line copy.line ≡ m.buffers.line
  line-patched = either (λ x. x ≡ m.buffers.line) m.flag (λ _. refl) K.line-right

  asking-matches : (l : Loan) → W.refuses world own l asking ≡ false
      → Matches r (W.world_after world own l asking) (M.after_call m asking) (W.seen_of world own l asking) (M.shows m asking)
  asking-matches l h =
      let done = asked-done own (asked-whole own h) in
      let bits : ℕ = bits_of r m.rows in
      let in-set : (k : ℕ) → k < m.displays.core.rows → has_bit bits k ≡ m.rows k = λ k l. bits_at r m.rows k (omega (arith, K.rows)) in
      let page : patched m.displays.core.rows (row_list 64 (has_bit bits)) copy.page m.buffers.page ≡ m.buffers.page =
      rw (K.rows, listed-all) patched-right in
      let right : copied m.displays.core.rows (ask_done own).result world ≡ m.buffers = ap₂ buffers page line-patched in
      record {
        related = record {
          copy = m.buffers;
          is = rw done (ap₂ (λ (x : ℕ) (c : Buffers). record {
            buffers = m.buffers;
            state = record { displays = m.displays; tracked = record { changed = x; flag = false } };
            copy = c;
          }) (sym (bits_none r)) right);
          kept = record { rows = K.rows; whole = K.whole; size = K.size; line-size = K.line-size; right = λ k l e. refl; line-right = λ e. refl };
        };
        same = rw (done, right, listed-all, size-ext m.displays.core.rows (has_bit bits) m.rows in-set, K.rows);
      }

  reading-matches : (l : Loan) → l.page ≡ entire the_page → (i j : ℕ) → W.refuses world own l (reading i j) ≡ false
      → Matches r (W.world_after world own l (reading i j)) (M.after_call m (reading i j)) (W.seen_of world own l (reading i j)) (M.shows m (reading i j))
  reading-matches l el i j h = record {
    related = record { copy = copy; is = refl; kept = K };
    same = rw el (ap cell_seen ((read-is-exact own m.buffers.page i j).word (rw el at h)));
  }

  rowing-matches : (i : ℕ) → W.refuses world own hers (rowing i) ≡ false
      → Matches r (W.world_after world own hers (rowing i)) (M.after_call m (rowing i)) (W.seen_of world own hers (rowing i)) (M.shows m (rowing i))
  rowing-matches i h = record {
    related = record { copy = copy; is = refl; kept = K };
    same = ap row_seen ((row-hands-back own m.buffers i).cells (eqb-true _ 0 (not-false _ h)));
  }

-- ---- one item of a list

pub lent-hers : (l : Loan) → W.BothEntire l → l ≡ hers
lent-hers l e = ap₂ (λ (p q : Lent). record { page = p; line = q }) e.0 e.1

given-matches : (r : ℕ) (m : Model) (copy : Buffers) → Kept r m copy → (call : Call) (s : State) (l : Loan) → s ≡ (world_of r m copy).state
    → W.LentEntire call l → W.refuses (world_of r m copy) s l call ≡ false
    → Matches r (W.world_after (world_of r m copy) s l call) (M.after_call m call) (W.seen_of (world_of r m copy) s l call) (M.shows m call)
given-matches r m copy K (feeding i o) s l es el h = rw (es, lent-hers l el) (feeding-matches r m copy K i o (rw (es, lent-hers l el) at h))
given-matches r m copy K asking s l es el h = rw es (asking-matches r m copy K l (rw es at h))
given-matches r m copy K (reading i j) s l es el h = rw es (reading-matches r m copy K l el i j (rw es at h))
given-matches r m copy K (rowing i) s l es el h = rw (es, lent-hers l el) (rowing-matches r m copy K i (rw (es, lent-hers l el) at h))

-- a refused call leaves her world, whatever it was given
left-hers : (p : Buffers) (x : Which) → W.replaced p x (W.of_hers p x) ≡ p
left-hers p the_page = refl
left-hers p the_line = refl

left-words : (p : Buffers) (l : Lent) → W.written_back p l (W.words_of p l) ≡ p
left-words p (entire x) = left-hers p x
left-words p (part x a n) =
    let h : List ℕ = W.of_hers p x in
    let same : take a h ++ (take n (drop a h) ++ drop (a + n) h) ≡ h =
    rw (← (drop-drop n a h), take-append-drop n (drop a h)) (take-append-drop a h) in
    ap (W.replaced p x) same ∙ left-hers p x
left-words p (other o) = refl

left-buffers : (w : World) (l : Loan) → W.buffers_after w l (W.lent_to w l) ≡ w.buffers
left-buffers w l = rw (left-words w.buffers l.page) (left-words w.buffers l.line)

pub refused-left : (w : World) (call : Call) (s : State) (l : Loan) → W.refuses w s l call ≡ true → W.world_after w s l call ≡ w
refused-left w (feeding i o) s l h =
    rw (h, (fed-left s (W.lent_to w l) i o h).buffers, left-buffers w l)
refused-left w asking s l h = rw h
refused-left w (reading i j) s l h = refl
refused-left w (rowing i) s l h = refl

record Steps (r : ℕ) (w : World) (m : Model) (x : Item) : Type 0 where
  related : Related r (W.next w x) (M.after_notice m (W.notice_of w x))
  same : W.seen w x ≡ M.shows_notice m (W.notice_of w x)

item : (r : ℕ) (m : Model) (w : World) (x : Item) → Related r w m → (W.is_refused w x ≡ false → Given w x) → (t : Bool) → W.is_refused w x ≡ t → Steps r w m x
item r m w x R G true e = record {
  related = rw (e, refused-left w x.call x.state x.lent e) R;
  same = rw e;
}
item r m w x R G false e =
    let g = G e in
    let e' = rw R.is at e in
    let A = subst (λ (v : World). Matches r (W.world_after v x.state x.lent x.call) (M.after_call m x.call)
    (W.seen_of v x.state x.lent x.call) (M.shows m x.call))
    (sym R.is) (given-matches r m R.copy R.kept x.call x.state x.lent (g.newest ∙ ap (λ (v : World). v.state) R.is) g.lends e') in
    record { related = rw e A.related; same = rw (e, A.same) }

-- ---- every list

agrees : (r : ℕ) (w : World) (m : Model) (xs : List Item) → Related r w m → Proper w xs → Agrees w m xs
unfolding W.ends_at W.seen_all W.notices_of M.ends M.shows_all
agrees r w m [] R P = record {
  page = ap (λ (v : World). v.buffers.page) R.is;
  line = ap (λ (v : World). v.buffers.line) R.is;
  displays = ap (λ (v : World). v.state.displays) R.is;
  seen = refl;
}
agrees r w m (x ∷ xs) R P =
    let S = item r m w x R P.0 (W.is_refused w x) refl in
    let A = agrees r (W.next w x) (M.after_notice m (W.notice_of w x)) xs S.related P.1 in
    record { page = A.page; line = A.line; displays = A.displays; seen = rw (S.same, A.seen) }

-- ---- the start

start-related : (r : ℕ) (p : Buffers) → (started r p).number ≡ 0 → Related r (W.opened r p) (M.begun r)
start-related r p h =
    let s = start-is-exact r p in
    let d = s.done.0 h in
    let b = s.begun h in
    record {
      copy = blank_buffers r;
      is = rw (b.0, b.1) (ap (λ (x : ℕ). record {
        buffers = blank_buffers r;
        state = record { displays = (fresh r).displays; tracked = record { changed = x; flag = false } };
        copy = blank_buffers r;
      }) (sym (bits_none r)));
      kept = record {
        rows = fresh-rows r;
        whole = record { core = fresh-whole r (sized_rows r d.0); line = fresh-line _ };
        size = length-replicate (80 * r) blank;
        line-size = length-replicate 80 blank;
        right = λ k l e. refl;
        line-right = λ e. refl;
      };
    }

pub demand-3 : Demand3
demand-3 r p h xs P = agrees r (W.opened r p) (M.begun r) xs (start-related r p h) P
