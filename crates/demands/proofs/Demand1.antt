-- Demand 1 and what it stands on: states stay whole, replies are short, any bytes are taken without harm, and what an edit changes.
use Rattle.std.proofs.Common.{◌≡◌, ℕ, suc, ◌+◌, ◌-◌, ◌*◌, ◌<◌, ◌≤◌, Bool, true, false, cond, eqb, ltb, List, [], ◌∷◌, length, get_or, take, drop, sym, refl, ap, ◌∙◌, ⊎_elim, zero-le, lt_of_lt_of_le, zero-add, arith, length-append, take_all, take_at, drop_at, pow_pos, pow_mono, ltb-false, ltb-true, eqb-true}
use mathlib.Core.Bool.{false≢true}
use lib.Seq.{sets, sets-eq, length-sets}
use borrow.Author.Tests.{eqb-false}
use Rattle.ground.specs.Tests.{between}
use Rattle.ground.proofs.ListLaws.{split-lt}
use Rattle.ground.proofs.TestLaws.{in_between}
use Rattle.cells.specs.Cells.{bit}
use Rattle.cells.specs.Rows.{row}
use Rattle.cells.specs.Sets.{size_of, has_bit}
use Rattle.cells.proofs.BitLaws.{ones-size}
use Rattle.cells.proofs.RowLaws.{length-row}
use Rattle.page.proofs.EditLaws.{every-edit}
use Rattle.core_state.specs.declared.Core.{Core}
use Rattle.core_state.specs.declared.Displays.{Displays}
use Rattle.core_state.specs.Whole.{sized, Whole}
use Rattle.dispatch.specs.Displays.{carried_out, sends_of}
use Rattle.wholeness.proofs.Wholeness.{sized_rows, displays-facts, fresh-rows, fresh-whole}
use Rattle.wholeness.proofs.SoundDisplays.{sends-few, fresh-line}
use Rattle.steps.specs.declared.State.{State}
use Rattle.terminal.specs.Answers.{Answer, Done, Broken, WrongSize, NoRoom, OffPage, number, refusal}
use Rattle.steps.specs.Steps.{nothing_tracked, Buffers, stepped, ran, ran_displays, sent, readable, screen}
use Rattle.steps.specs.Whole.{whole_state, WholeState, right_sizes}
use Rattle.terminal.specs.Start.{Start, fresh, started}
use Rattle.feeding.specs.Bytes.{read_count}
use Rattle.terminal.specs.Feed.{Feed, fitting, feed_first, fed}
use Rattle.terminal.specs.Ask.{Ask, asked}
use Rattle.terminal.specs.Read.{Read, on_page, read_answer, read_word, cell_read}
use Rattle.terminal.specs.Row.{RowRead, active_rows, active_cells, row_answer, row_gives, row_read}
use Rattle.terminal.specs.CursorRead.{CursorReading, cursor_done, cursor_refused, cursor_read}
use Rattle.steps.proofs.StepLaws.{ReadyAt, ready-step, step-rows, step-long, line-long, ready-ran, ran-displays, sent-fits, reads_all, readable-most}
use Rattle.terminal.proofs.CallLaws.{reads-one, state-facts, state-tested, sizes-fit, fit-sizes, fed-broken, fed-size, fed-processed, fed-cases, Taken}
use Rattle.terminal.proofs.CallLaws.{fed-taken, fed-left, asked-done, asked-broken, asked-whole, started-as, read_as, row_done, row_as}
use Rattle.demands.specs.Statements.{OfSize, OtherSize, state_in, FreshWhole, StepWhole, StartWhole, FeedWhole, AskWhole, RepliesShort, NextTooLong}
use Rattle.demands.specs.Statements.{FeedAnswers, FeedExact, FeedRefused, FeedDoes, RestKept, ReplyKept, Progress, StartAnswers, StartExact}
use Rattle.demands.specs.Statements.{AskAnswers, AskExact, ReadAnswers, ReadExact, RowAnswers, RowExact, HandedBack, RowHands}
use Rattle.demands.specs.Statements.{CursorAnswers, CursorExact, EveryEdit}

-- ---- states stay whole

pub fresh-is-whole : FreshWhole
fresh-is-whole r e =
    state-tested (fresh r) (record {
      displays = record { core = fresh-whole r (sized_rows r e); line = fresh-line _ };
      size = rw fresh-rows e;
      changed = rw fresh-rows (pow_pos r);
    })

pub step-keeps-whole : StepWhole
step-keeps-whole s p b e h =
    let d = screen s p in
    let k : ReadyAt d = record { whole = state-facts s e; size = h.page } in
    record {
      whole = state-tested (state_in (stepped d b)) (ready-step d b k).whole;
      rows = step-rows d b k;
      size = step-long d b k;
      line-size = line-long d b k h.line ∙ sym h.line;
    }

pub start-returns-whole : StartWhole
unfolding started
start-returns-whole r p = go (sized r) refl (right_sizes r p) refl
  where
    go : (t : Bool) → sized r ≡ t → (u : Bool) → right_sizes r p ≡ u → whole_state (started r p).result.state ≡ true
    go true e true g = rw (e, g) (fresh-is-whole r e)
    go true e false g = rw (e, g) (fresh-is-whole 24 refl)
    go false e u g = rw e (fresh-is-whole 24 refl)

pub feed-returns-whole : FeedWhole
feed-returns-whole s p i o h =
    let t : Taken s p = fed-taken s p i o h in
    let n = read_count s i o in
    rw (fed-processed s p i o t.whole t.sizes)
    (state-tested (state_in (ran (screen s p) (take n i)))
    (ready-ran (screen s p) (take n i) (record { whole = state-facts s t.whole; size = (sizes-fit s.displays.core.rows p t.sizes).0 })).whole)

pub ask-returns-whole : AskWhole
ask-returns-whole s h =
    let e = asked-whole s h in
    let w : WholeState s = state-facts s e in
    rw (asked-done s e) (state-tested (record { displays = s.displays; tracked = nothing_tracked })
    (record { displays = w.displays; size = w.size; changed = pow_pos s.displays.core.rows }))

-- ---- replies are short

pub replies-are-short : RepliesShort
replies-are-short k b e = sends-few k (displays-facts k e) b

-- ---- demand 1: feeding

-- What `omega` is told of a test: its bit, and back. With these, where an answer's number and the tests that led to it are known, `omega exact`
-- proves each "exactly when" of that answer and of the others.
of-true : (t : Bool) → t ≡ true → bit t ≡ 1
of-true t e = ap bit e

of-false : (t : Bool) → t ≡ false → bit t ≡ 0
of-false t e = ap bit e

to-true : (t : Bool) → bit t ≡ 1 → t ≡ true
to-true true e = refl
to-true false e = absurd (omega arith)

to-false : (t : Bool) → bit t ≡ 0 → t ≡ false
to-false true e = absurd (omega arith)
to-false false e = refl

-- The same of the test of both lengths.
of-sized : (r : ℕ) (p : Buffers) → OfSize r p → bit (right_sizes r p) ≡ 1
of-sized r p h = ap bit (fit-sizes r p h.page h.line)

to-sized : (r : ℕ) (p : Buffers) → bit (right_sizes r p) ≡ 1 → OfSize r p
to-sized r p h = let z = sizes-fit r p (to-true (right_sizes r p) h) in record { page = z.0; line = z.1 }

of-unsized : (r : ℕ) (p : Buffers) → OtherSize r p → bit (right_sizes r p) ≡ 0
of-unsized r p h = go (right_sizes r p) refl
  where
    go : (t : Bool) → right_sizes r p ≡ t → bit (right_sizes r p) ≡ 0
    go true e = absurd (h.other (to-sized r p (ap bit e)))
    go false e = ap bit e

to-unsized : (r : ℕ) (p : Buffers) → bit (right_sizes r p) ≡ 0 → OtherSize r p
to-unsized r p h = record { other = λ z. omega (arith, of-sized r p z) }

ruleset exact = (arith, eqb-true, eqb-false, of-true, of-false, to-true, to-false, of-sized, to-sized, of-unsized, to-unsized)

-- where reading stops, the next byte's reply is longer than the room left
stops-before : (room : ℕ) (k : Displays) (bs : List ℕ) → readable room k bs < length bs
    → let n = readable room k bs in room - length (sent k (take n bs)) < length (sends_of (ran_displays k (take n bs)) (get_or bs n 0))
unfolding readable sent ran_displays
stops-before room k [] h = absurd (omega arith)
stops-before room k (b ∷ bs) h = go (ltb room (length (sends_of k b))) refl h (stops-before (room - length (sends_of k b)) after bs)
  where
    after : Displays
    after = (carried_out k b).displays

    more : ℕ
    more = readable (room - length (sends_of k b)) after bs

    go : (t : Bool) → ltb room (length (sends_of k b)) ≡ t → cond t 0 (suc more) < suc (length bs)
        → (more < length bs → room - length (sends_of k b) - length (sent after (take more bs)) < length
        (sends_of (ran_displays after (take more bs)) (get_or bs more 0)))
        → room - length (sent k (take (cond t 0 (suc more)) (b ∷ bs))) < length
        (sends_of (ran_displays k (take (cond t 0 (suc more)) (b ∷ bs))) (get_or (b ∷ bs) (cond t 0 (suc more)) 0))
    go true e l f = let x = ltb-true room (length (sends_of k b)) e in omega arith
    go false e l f = let x = f (omega arith) in rw length-append (omega arith)

-- and all that is sent is longer than the room
sends_more : (room : ℕ) (k : Displays) (bs : List ℕ) → readable room k bs < length bs → room < length (sent k bs)
sends_more room k bs h =
    ⊎_elim (λ (l : room < length (sent k bs)). l) (λ (l : length (sent k bs) ≤ room). omega (arith, reads_all room k bs l))
    (split-lt room (length (sent k bs)))

module _ (s : State) (p : Buffers) (i o : List ℕ) where
  numbered : {f : Feed} → fed s p i o ≡ f → (fed s p i o).number ≡ f.number
  numbered e = ap (λ (f : Feed). f.number) e

  module _ (e : whole_state s ≡ true) (h : right_sizes s.displays.core.rows p ≡ true) where
    run : fed s p i o ≡ feed_first (fitting s i o) (read_count s i o) s p i o
    run = fed-processed s p i o e h

    too_long : read_count s i o < length i → NextTooLong (fed s p i o) i o
    too_long l = rw run (record { more = l; long = rw (ran-displays (screen s p) (take (read_count s i o) i)) (stops-before (length o) s.displays i l) })

    feed-processed : (t : Bool) → ltb (read_count s i o) (length i) ≡ t → FeedAnswers s p i o
    feed-processed true g =
        let l = ltb-true (read_count s i o) (length i) g in
        let m = sends_more (length o) s.displays i l in
        let t = too_long l in
        let n : (fed s p i o).number ≡ 3 = numbered run ∙ rw g in
        omega exact
    feed-processed false g =
        let l = ltb-false (read_count s i o) (length i) g in
        let m = readable-most (length o) s.displays i in
        let fits = rw (take_all (read_count s i o) i (omega arith)) at (sent-fits (length o) s.displays i) in
        let count : (fed s p i o).result.read ≡ read_count s i o = ap (λ (f : Feed). f.result.read) run in
        let n : (fed s p i o).number ≡ 0 = numbered run ∙ rw g in
        omega exact

pub feed-is-exact : FeedExact
feed-is-exact s p i o =
    fed-cases s p i o
    (λ e. let n = numbered s p i o (fed-broken s p i o e) in omega exact)
    (λ e h. let n = numbered s p i o (fed-size s p i o e h) in omega exact)
    (λ e h. feed-processed s p i o e h (ltb (read_count s i o) (length i)) refl)

pub refused-feed-leaves : FeedRefused
refused-feed-leaves = fed-left

-- the bytes at the front of the buffer are those that were sent
pub front : (out o : List ℕ) → length out ≤ length o → take (length out) (sets o 0 out) ≡ out
front out o fits = ap (take (length out)) (sets-eq out o 0 (omega arith)) ∙ take_at out (drop (0 + length out) o) (length out) refl

pub feed-does : FeedDoes
feed-does s p i o h =
    let t : Taken s p = fed-taken s p i o h in
    rw (fed-processed s p i o t.whole t.sizes)
    (record { state = refl; buffers = refl; bytes = front (sent s.displays (take (read_count s i o) i)) o (sent-fits (length o) s.displays i) })

rest-processed : (s : State) (p : Buffers) (i o : List ℕ) (a : Answer) → RestKept o (feed_first a (read_count s i o) s p i o)
rest-processed s p i o a =
    let out = sent s.displays (take (read_count s i o) i) in
    let fits : length out ≤ length o = sent-fits (length o) s.displays i in
    record { long = length-sets o 0 out; within = fits; rest = rw (sets-eq out o 0 (omega arith), zero-add) (drop_at out (drop (length out) o) _ refl) }

pub reply-rest-kept : ReplyKept
reply-rest-kept s p i o =
    fed-cases s p i o
    (λ e. rw (fed-broken s p i o e) (record { long = refl; within = zero-le; rest = refl }))
    (λ e h. rw (fed-size s p i o e h) (record { long = refl; within = zero-le; rest = refl }))
    (λ e h. rw (fed-processed s p i o e h) (rest-processed s p i o (fitting s i o)))

pub progress : Progress
progress s p i o e h l room =
    rw (fed-processed s p i o e (fit-sizes s.displays.core.rows p h.page h.line))
    (reads-one (length o) s.displays i (state-facts s e).displays l room)

-- ---- demand 1: starting, asking, reading

pub start-is-exact : StartExact
start-is-exact r p = go (sized r) refl (right_sizes r p) refl
  where
    go : (t : Bool) → sized r ≡ t → (u : Bool) → right_sizes r p ≡ u → StartAnswers r p
    go true e true g =
        let q = started-as r p Done (rw (e, g)) in
        let n : (started r p).number ≡ 0 = ap (λ (x : Start). x.number) q in
        record {
          broken = omega exact;
          wrong_size = omega exact;
          done = omega exact;
          refused = λ x. absurd (false≢true (rw q at x));
          begun = λ x. rw q (refl, refl);
        }
    go true e false g =
        let q = started-as r p WrongSize (rw (e, g)) in
        let n : (started r p).number ≡ 2 = ap (λ (x : Start). x.number) q in
        record { broken = omega exact; wrong_size = omega exact; done = omega exact; refused = λ x. rw q (refl, refl); begun = λ x. absurd (omega arith) }
    go false e u g =
        let q = started-as r p Broken (rw e) in
        let n : (started r p).number ≡ 1 = ap (λ (x : Start). x.number) q in
        record { broken = omega exact; wrong_size = omega exact; done = omega exact; refused = λ x. rw q (refl, refl); begun = λ x. absurd (omega arith) }

-- the rows above R have no bit
count-64 : (s : State) → whole_state s ≡ true → size_of s.displays.core.rows (has_bit s.tracked.changed) ≡ size_of 64 (has_bit s.tracked.changed)
count-64 s e =
    let w : WholeState s = state-facts s e in
    sym (ones-size s.displays.core.rows s.tracked.changed w.changed) ∙ ones-size 64 s.tracked.changed
    (lt_of_lt_of_le w.changed (pow_mono {j = 64} (omega (arith, w.displays.core.parts.bounds.count.high))))

pub ask-is-exact : AskExact
ask-is-exact s = go (whole_state s) refl
  where
    go : (t : Bool) → whole_state s ≡ t → AskAnswers s
    go true e =
        let q = asked-done s e in
        let n : (asked s).number ≡ 0 = ap (λ (x : Ask). x.number) q in
        record {
          broken = omega exact;
          done = omega exact;
          refused = λ x. absurd (false≢true (rw q at x));
          reported = λ x. rw q (record { rows = refl; count = count-64 s e; flag = refl; displays = refl; emptied = refl; cleared = refl });
        }
    go false e =
        let q = asked-broken s e in
        let n : (asked s).number ≡ 1 = ap (λ (x : Ask). x.number) q in
        record {
          broken = omega exact;
          done = omega exact;
          refused = λ x. rw q (record { rows = refl; count = refl; flag = refl; state = refl });
          reported = λ x. absurd (omega arith);
        }

-- what a reading with an answer shows
record Shown (f : Read) (n : ℕ) (t : Bool) (w : ℕ) : Type 0 where
  number : f.number ≡ n
  refused : refusal f.result.answer ≡ t
  word : f.result.word ≡ w

pub read-is-exact : ReadExact
read-is-exact s p r c = go (whole_state s) refl (eqb (length p) (80 * s.displays.core.rows)) refl (on_page s.displays.core.rows r c) refl
  where
    shown : (a : Answer) → read_answer s p r c ≡ a → Shown (cell_read s p r c) (number a) (refusal a) (read_word a p r c)
    shown a q = rw (read_as s p r c a q) (record { number = refl; refused = refl; word = refl })

    go : (t : Bool) → whole_state s ≡ t → (u : Bool) → eqb (length p) (80 * s.displays.core.rows) ≡ u
        → (v : Bool) → on_page s.displays.core.rows r c ≡ v → ReadAnswers s p r c
    go true e true g true k = let f = shown Done (rw (e, g, k)) in omega exact
    go true e true g false k = let f = shown OffPage (rw (e, g, k)) in omega exact
    go true e false g v k = let f = shown WrongSize (rw (e, g)) in omega exact
    go false e u g v k = let f = shown Broken (rw e) in omega exact

pub row-is-exact : RowExact
row-is-exact s p r = go (whole_state s) refl (right_sizes s.displays.core.rows p) refl (between 1 r (active_rows s)) refl
  where
    numbered-as : (a : Answer) → row_answer s p r ≡ a → (row_read s p r).number ≡ number a
    numbered-as a e = ap (λ (x : RowRead). x.number) (row_as s p r a e)

    go : (t : Bool) → whole_state s ≡ t → (u : Bool) → right_sizes s.displays.core.rows p ≡ u
        → (v : Bool) → between 1 r (active_rows s) ≡ v → RowAnswers s p r
    go true e true g true k = let n = numbered-as Done (rw (e, g, k)) in omega exact
    go true e true g false k = let n = numbered-as OffPage (rw (e, g, k)) in omega exact
    go true e false g v k = let n = numbered-as WrongSize (rw (e, g)) in omega exact
    go false e u g v k = let n = numbered-as Broken (rw e) in omega exact

hands-cells : (cells : List ℕ) → length cells ≡ 80 → HandedBack (record { number = 0; cells = cells }) cells
hands-cells cells l = record {
  none = (λ (e : cells ≡ []). absurd (omega (arith, ap length e)), λ h. absurd (h refl));
  cells = λ e. refl;
  long = λ e. l;
}

hands_none : (n : ℕ) (cells : List ℕ) → (n ≡ 0 → ⊥) → HandedBack (record { number = n; cells = [] }) cells
hands_none n cells h = record { none = (λ e. h, λ e. refl); cells = λ e. absurd (h e); long = λ e. absurd (h e) }

module _ (s : State) (p : Buffers) (r : ℕ) where
  abbrev asked-for : List ℕ
  asked-for = row (active_cells s p) (r - 1)

  refused-hands : (a : Answer) → refusal a ≡ true → HandedBack (row_gives a s p r) asked-for
  refused-hands Done h = absurd (false≢true h)
  refused-hands Broken h = hands_none 1 asked-for (omega arith)
  refused-hands WrongSize h = hands_none 2 asked-for (omega arith)
  refused-hands NoRoom h = absurd (false≢true h)
  refused-hands OffPage h = hands_none 4 asked-for (omega arith)

pub row-hands-back : RowHands
row-hands-back s p r = go (refusal (row_answer s p r)) refl
  where
    go : (t : Bool) → refusal (row_answer s p r) ≡ t → HandedBack (row_read s p r) (row (active_cells s p) (r - 1))
    go true h = rw (row_as s p r (row_answer s p r) refl) (refused-hands s p r (row_answer s p r) h)
    go false h =
        let d = row_done s p r h in
        rw (row_as s p r Done d.is) (hands-cells (row (active_cells s p) (r - 1)) (length-row (active_cells s p) (r - 1) d.high))

cursor-done : (s : State) → whole_state s ≡ true → cursor_read s ≡ cursor_done s
unfolding cursor_read
cursor-done s e = rw e

cursor-broken : (s : State) → whole_state s ≡ false → cursor_read s ≡ cursor_refused Broken
unfolding cursor_read
cursor-broken s e = rw e

cursor-on-page : (c : Core) → Whole c → on_page c.rows c.cursor.row c.cursor.column ≡ true
cursor-on-page c w =
    let at = w.parts.bounds.cursor in
    rw (in_between 1 c.cursor.row c.rows at.row_low at.row-high, in_between 1 c.cursor.column 80 at.column-low at.column-high)

pub cursor-is-exact : CursorExact
cursor-is-exact s = go (whole_state s) refl
  where
    go : (t : Bool) → whole_state s ≡ t → CursorAnswers s
    go true e =
        let q = cursor-done s e in
        let n : (cursor_read s).number ≡ 0 = ap (λ (x : CursorReading). x.number) q in
        record {
          broken = omega exact;
          done = omega exact;
          refused = λ x. absurd (omega arith);
          placed = λ x. rw q (record {
            row = refl;
            column = refl;
            wrap = refl;
            shown = refl;
            on-page = cursor-on-page s.displays.core (state-facts s e).displays.core;
          });
        }
    go false e =
        let q = cursor-broken s e in
        let n : (cursor_read s).number ≡ 1 = ap (λ (x : CursorReading). x.number) q in
        record { broken = omega exact; done = omega exact; refused = λ x. rw q; placed = λ x. absurd (omega arith) }

-- ---- edits

pub edits-are-faithful : EveryEdit
edits-are-faithful = every-edit
