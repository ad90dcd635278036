-- Each call's definition, by case.
use Rattle.std.proofs.Common.{◌≡◌, ℕ, ◌+◌, ◌-◌, ◌*◌, ◌^◌, ◌≤◌, Bool, true, false, cond, ltb, List, [], ◌∷◌, length, sym, refl, ap, ◌∙◌, true≢false, arith, ltb-true, lt-ltb, eq-eqb, eqb-true}
use mathlib.Core.Bool.{false≢true}
use Rattle.core_state.specs.declared.Displays.{Displays}
use Rattle.core_state.specs.Bounds.{OnPage}
use Rattle.core_state.specs.Whole.{whole_displays, WholeDisplays}
use Rattle.ground.specs.Tests.{between}
use Rattle.ground.proofs.TestLaws.{and_left, and_right, and_both, between-low, between-high}
use Rattle.wholeness.proofs.Wholeness.{placed, core-sized, displays-core, displays-facts, displays-tested}
use Rattle.wholeness.proofs.SoundDisplays.{sends-few}
use Rattle.steps.specs.Steps.{Buffers, readable}
use Rattle.steps.proofs.StepLaws.{readable-fits}
use Rattle.steps.specs.declared.State.{State}
use Rattle.feeding.specs.declared.bytes.FedBytes.{FedBytes}
use Rattle.feeding.specs.Bytes.{Feeding, read_count, bytes_fed}
use Rattle.std.specs.Prelude.{Result, Ok, Err, IsOk}
use Rattle.terminal.specs.declared.Refusal.{Refusal}
use Rattle.terminal.specs.declared.Refused.{Refused}
use Rattle.terminal.specs.declared.Refusal.TheVariants as R
use Rattle.terminal.specs.Answers.{Answer, Done, Broken, WrongSize, NoRoom, OffPage, number, refusal, answer_of, whole_checked, sizes_checked, checked}
use Rattle.steps.specs.Whole.{right_size, right_sizes, whole_state, WholeState}
use Rattle.terminal.specs.Start.{start_answer, start_gives, started}
use Rattle.terminal.specs.Feed.{Feed, fitting, feed_as, feed_told, feed_first, feed_refused, feed_gives, fed, Untouched}
pub use Rattle.terminal.specs.Feed.{Taken}
use Rattle.terminal.specs.declared.Asked.{Asked as Report}
use Rattle.terminal.specs.Ask.{Ask, ask_done, ask_refused, ask_told, asked}
use Rattle.terminal.specs.Read.{on_page, read_answer, read_gives, cell_read}
use Rattle.terminal.specs.Row.{active_rows, active_cells, row_answer, row_cells, row_gives, row_read}

-- ---- whole states

pub state-facts : (s : State) → whole_state s ≡ true → WholeState s
unfolding whole_state
state-facts s e =
    let few = ltb s.tracked.changed (2 ^ s.displays.core.rows) in
    let w = and_left (whole_displays s.displays) few e in
    record {
      displays = displays-facts s.displays w;
      size = core-sized s.displays.core (displays-core s.displays w);
      changed = ltb-true s.tracked.changed (2 ^ s.displays.core.rows) (and_right (whole_displays s.displays) few e);
    }

pub state-tested : (s : State) → WholeState s → whole_state s ≡ true
unfolding whole_state
state-tested s w =
    and_both (whole_displays s.displays) (ltb s.tracked.changed (2 ^ s.displays.core.rows))
    (displays-tested s.displays w.size w.displays) (lt-ltb s.tracked.changed (2 ^ s.displays.core.rows) w.changed)

pub refusing : (e : Refusal) → refusal (answer_of e) ≡ true
refusing R.Broken = refl
refusing R.WrongSize = refl
refusing R.OffPage = refl

-- ---- the tests before a call

abbrev test : Bool → Refusal → Result (Unit {0}) Refusal
test t x = cond t (Ok tt) (Err x)

test-passed : (t : Bool) (x : Refusal) (u : Unit {0}) → Ok u ≡ test t x → t ≡ true
test-passed true x u h = refl
test-passed false x u h = absurd (cc)

test-refused : (t : Bool) (x e : Refusal) → Err e ≡ test t x → (t ≡ false) × (e ≡ x)
test-refused true x e h = absurd (cc)
test-refused false x e h = (refl, cc)

pub whole-passed : (s : State) (u : Unit {0}) → Ok u ≡ whole_checked s → whole_state s ≡ true
whole-passed s u h = test-passed (whole_state s) R.Broken u h

pub whole-refused : (s : State) (e : Refusal) → Err e ≡ whole_checked s → (whole_state s ≡ false) × (e ≡ R.Broken)
whole-refused s e h = test-refused (whole_state s) R.Broken e h

pub sizes-passed : (r : ℕ) (p : Buffers) (u : Unit {0}) → Ok u ≡ sizes_checked r p → right_sizes r p ≡ true
sizes-passed r p u h = test-passed (right_sizes r p) R.WrongSize u h

pub sizes-refused : (r : ℕ) (p : Buffers) (e : Refusal) → Err e ≡ sizes_checked r p → (right_sizes r p ≡ false) × (e ≡ R.WrongSize)
sizes-refused r p e h = test-refused (right_sizes r p) R.WrongSize e h

pub passed : (s : State) (p : Buffers) (u : Unit {0}) → Ok u ≡ checked s p → Taken s p
passed s p u h = go (whole_state s) refl h
  where
    go : (t : Bool) → whole_state s ≡ t → Ok u ≡ cond t (sizes_checked s.displays.core.rows p) (Err R.Broken) → Taken s p
    go true e h = record { whole = e; sizes = sizes-passed s.displays.core.rows p u h }
    go false e h = absurd (cc)

-- which of the two it is
pub refused-cases : {C : Type 0} (s : State) (p : Buffers) (e : Refusal) → Err e ≡ checked s p → (whole_state s ≡ false → e ≡ R.Broken → C)
    → (whole_state s ≡ true → right_sizes s.displays.core.rows p ≡ false → e ≡ R.WrongSize → C) → C
refused-cases {C} s p e h broken size = go (whole_state s) refl h
  where
    go : (t : Bool) → whole_state s ≡ t → Err e ≡ cond t (sizes_checked s.displays.core.rows p) (Err R.Broken) → C
    go true w h = let r = sizes-refused s.displays.core.rows p e h in size w r.0 r.1
    go false w h = broken w cc

-- ---- lengths

pub sizes-fit : (r : ℕ) (p : Buffers) → right_sizes r p ≡ true → (length p.page ≡ 80 * r) × (length p.line ≡ 80)
sizes-fit r p e = (
  eqb-true (length p.page) (80 * r) (and_left (right_size r p.page) (right_size 1 p.line) e),
  eqb-true (length p.line) 80 (and_right (right_size r p.page) (right_size 1 p.line) e),
)

pub fit-sizes : (r : ℕ) (p : Buffers) → length p.page ≡ 80 * r → length p.line ≡ 80 → right_sizes r p ≡ true
fit-sizes r p h l = and_both (right_size r p.page) (right_size 1 p.line) (eq-eqb (length p.page) (80 * r) h) (eq-eqb (length p.line) 80 l)

-- ---- feeding

module _ (s : State) (p : Buffers) (i o : List ℕ) where
  pub fed-broken : whole_state s ≡ false → fed s p i o ≡ feed_refused Broken s p o
  unfolding fed
  fed-broken e = rw e

  pub fed-size : whole_state s ≡ true → right_sizes s.displays.core.rows p ≡ false → fed s p i o ≡ feed_refused WrongSize s p o
  unfolding fed
  fed-size e h = rw (e, h)

  fitting-gives : (t : Bool) → feed_gives (cond t NoRoom Done) s p i o ≡ feed_first (cond t NoRoom Done) (read_count s i o) s p i o
  fitting-gives true = refl
  fitting-gives false = refl

  pub fed-processed : whole_state s ≡ true → right_sizes s.displays.core.rows p ≡ true → fed s p i o ≡ feed_first (fitting s i o) (read_count s i o) s p i o
  unfolding fed
  fed-processed e h = rw (e, h) (fitting-gives (ltb (read_count s i o) (length i)))

  pub fed-refused : (e : Refusal) → Err e ≡ checked s p → feed_refused (answer_of e) s p o ≡ fed s p i o
  fed-refused e h = refused-cases s p e h (λ w is. rw is (sym (fed-broken w))) (λ w n is. rw is (sym (fed-size w n)))

  -- what the loop over the input leaves, with its answer
  pub fed-bytes : (f : Feeding) → f ≡ bytes_fed s p i o → whole_state s ≡ true → right_sizes s.displays.core.rows p ≡ true
      → feed_as (cond f.result.full NoRoom Done) f.result.read f.result.replied f.result.state f.buffers f.reply ≡ fed s p i o
  fed-bytes f e w h =
      ap (λ (x : Feeding). feed_as (cond x.result.full NoRoom Done) x.result.read x.result.replied x.result.state x.buffers x.reply) e
      ∙ sym (fed-processed w h)

  -- which of the three it is
  pub fed-cases : {C : Type 0} → (whole_state s ≡ false → C) → (whole_state s ≡ true → right_sizes s.displays.core.rows p ≡ false → C)
      → (whole_state s ≡ true → right_sizes s.displays.core.rows p ≡ true → C) → C
  fed-cases {C} broken size run = go (whole_state s) refl (right_sizes s.displays.core.rows p) refl
    where
      go : (t : Bool) → whole_state s ≡ t → (u : Bool) → right_sizes s.displays.core.rows p ≡ u → C
      go true e true g = run e g
      go true e false g = size e g
      go false e u g = broken e

pub fitting-refusal : (t : Bool) → refusal (cond t NoRoom Done) ≡ false
fitting-refusal true = refl
fitting-refusal false = refl

pub fed-accepted : (s : State) (p : Buffers) (i o : List ℕ) → Taken s p → refusal (fed s p i o).result.answer ≡ false
fed-accepted s p i o w = rw (fed-processed s p i o w.whole w.sizes) (fitting-refusal (ltb (read_count s i o) (length i)))

-- so its call is `Ok`
pub fed-ok : (s : State) (p : Buffers) (i o : List ℕ) (r : Result FedBytes (Refused FedBytes)) (q : Buffers) (o' : List ℕ) → Taken s p
    → feed_told r q o' ≡ fed s p i o → IsOk r
fed-ok s p i o (Ok f) q o' w e = refl
fed-ok s p i o (Err x) q o' w e = absurd (true≢false (sym (refusing x.refusal) ∙ ap (λ (f : Feed). refusal f.result.answer) e ∙ fed-accepted s p i o w))

pub fitting-number : (t : Bool) → number (cond t NoRoom Done) ≡ cond t 3 0
fitting-number true = refl
fitting-number false = refl

module _ (s : State) (p : Buffers) (i o : List ℕ) where
  -- a feeding that is not refused was given a whole state, and page and line of its sizes
  pub fed-taken : refusal (fed s p i o).result.answer ≡ false → Taken s p
  fed-taken h =
      fed-cases s p i o
      (λ e. absurd (true≢false (rw (fed-broken s p i o e) at h)))
      (λ e n. absurd (true≢false (rw (fed-size s p i o e n) at h)))
      (λ e n. record { whole = e; sizes = n })

  pub fed-left : refusal (fed s p i o).result.answer ≡ true → Untouched s p o (fed s p i o)
  fed-left h =
      fed-cases s p i o
      (λ e. rw (fed-broken s p i o e) (record { read = refl; replied = refl; state = refl; buffers = refl; reply = refl }))
      (λ e n. rw (fed-size s p i o e n) (record { read = refl; replied = refl; state = refl; buffers = refl; reply = refl }))
      (λ e n. absurd (false≢true (sym (fitting-refusal (ltb (read_count s i o) (length i))) ∙ rw (fed-processed s p i o e n) at h)))

-- with room for a reply, one byte at least is read
pub reads-one : (room : ℕ) (k : Displays) (bs : List ℕ) → WholeDisplays k → 1 ≤ length bs → 11 ≤ room → 1 ≤ readable room k bs
reads-one room k [] w l h = absurd (omega arith)
reads-one room k (b ∷ bs) w l h = rw (readable-fits room k b bs (omega (arith, sends-few k w b))) (omega arith)

-- ---- asking and reading

pub on-page : (rows r c : ℕ) → on_page rows r c ≡ true → OnPage rows r c
on-page rows r c e = placed rows r c (and_left (between 1 r rows) (between 1 c 80) e) (and_right (between 1 r rows) (between 1 c 80) e)

pub asked-done : (s : State) → whole_state s ≡ true → asked s ≡ ask_done s
unfolding asked
asked-done s e = rw e

pub asked-broken : (s : State) → whole_state s ≡ false → asked s ≡ ask_refused Broken s
unfolding asked
asked-broken s e = rw e

-- one that is refused returns what it was given
pub asked-refused : (s : State) (e : Refused Report) → ask_told (Err e) ≡ asked s → asked s ≡ ask_refused (answer_of e.refusal) s
asked-refused s e h = go (whole_state s) refl
  where
    go : (t : Bool) → whole_state s ≡ t → asked s ≡ ask_refused (answer_of e.refusal) s
    go true w = absurd (true≢false (sym (refusing e.refusal) ∙ ap (λ (d : Ask). refusal d.result.answer) (h ∙ asked-done s w)))
    go false w =
        let is : answer_of e.refusal ≡ Broken = ap (λ (d : Ask). d.result.answer) (h ∙ asked-broken s w) in
        rw (is, asked-broken s w)

pub asked-whole : (s : State) → refusal (asked s).result.answer ≡ false → whole_state s ≡ true
asked-whole s h = go (whole_state s) refl
  where
    go : (t : Bool) → whole_state s ≡ t → whole_state s ≡ true
    go true e = e
    go false e = absurd (true≢false (rw (asked-broken s e) at h))

pub read_as : (s : State) (p : List ℕ) (r c : ℕ) (a : Answer) → read_answer s p r c ≡ a → cell_read s p r c ≡ read_gives a p r c
unfolding cell_read
read_as s p r c a e = ap (λ (x : Answer). read_gives x p r c) e

-- ---- reading a row

-- one that is not refused is done, and lies in the cells of the active display
pub record RowDone (s : State) (p : Buffers) (r : ℕ) : Type 0 where
  pub is : row_answer s p r ≡ Done
  pub low : 1 ≤ r
  pub high : 80 * (r - 1) + 80 ≤ length (active_cells s p)

pub row_done : (s : State) (p : Buffers) (r : ℕ) → refusal (row_answer s p r) ≡ false → RowDone s p r
row_done s p r h = go (whole_state s) refl (right_sizes s.displays.core.rows p) refl (between 1 r (active_rows s)) refl h
  where
    inside : (t : Bool) → right_sizes s.displays.core.rows p ≡ true → between 1 r (cond t 1 s.displays.core.rows) ≡ true
        → (1 ≤ r) × (80 * (r - 1) + 80 ≤ length (cond t p.line p.page))
    inside true e on = omega (arith, sizes-fit s.displays.core.rows p e, between-low 1 r 1 on, between-high 1 r 1 on)
    inside false e on =
        omega (arith, sizes-fit s.displays.core.rows p e, between-low 1 r s.displays.core.rows on, between-high 1 r s.displays.core.rows on)

    go : (w : Bool) → whole_state s ≡ w → (t : Bool) → right_sizes s.displays.core.rows p ≡ t → (u : Bool) → between 1 r (active_rows s) ≡ u
        → refusal (cond w (cond t (cond u Done OffPage) WrongSize) Broken) ≡ false → RowDone s p r
    go true ew true et true eu h =
        let i = inside s.displays.line.active et eu in
        record { is = rw (ew, et, eu); low = i.0; high = i.1 }
    go true ew true et false eu h = absurd (true≢false h)
    go true ew false et u eu h = absurd (true≢false h)
    go false ew t et u eu h = absurd (true≢false h)

pub row-refused : (a : Answer) (s : State) (p : Buffers) (r : ℕ) → refusal a ≡ true → row_cells a s p r ≡ []
row-refused Done s p r h = absurd (false≢true h)
row-refused Broken s p r h = refl
row-refused WrongSize s p r h = refl
row-refused NoRoom s p r h = refl
row-refused OffPage s p r h = refl

pub row_as : (s : State) (p : Buffers) (r : ℕ) (a : Answer) → row_answer s p r ≡ a → row_read s p r ≡ row_gives a s p r
unfolding row_read
row_as s p r a e = ap (λ (x : Answer). row_gives x s p r) e

-- what is told of one that the tests refuse
pub row-told-refused : (s : State) (p : Buffers) (r : ℕ) (e : Refusal) → Err e ≡ checked s p
    → record { number = number (answer_of e); cells = [] } ≡ row_read s p r
unfolding row_read
row-told-refused s p r e h = refused-cases s p e h (λ w is. rw (is, w)) (λ w n is. rw (is, w, n))

-- ---- the start

pub started-as : (r : ℕ) (p : Buffers) (a : Answer) → start_answer r p ≡ a → started r p ≡ start_gives a r p
unfolding started
started-as r p a e = ap (λ (x : Answer). start_gives x r p) e
