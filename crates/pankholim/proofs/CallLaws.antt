-- What the calls by value leave, from what their callees promise.
use mathlib.Core.Path.{◌≡◌, refl, sym, ap, ◌∙◌}
use mathlib.Core.Bool.{Bool, true, false}
use mathlib.Core.List.{List}
use Prim.Native.Nat.{ℕ}
use Rattle.cells.specs.Sets.{size_of, has_bit}
use Rattle.std.specs.Prelude.{Result, Ok, Err}
use Rattle.terminal.specs.declared.Refusal.{Refusal}
use Rattle.terminal.specs.declared.Refused.{Refused}
use Rattle.terminal.specs.declared.Refusal.TheVariants as R
use Rattle.terminal.specs.declared.Asked.{Asked as Report}
use Rattle.terminal.specs.Answers.{Done, whole_checked}
use Rattle.feeding.specs.declared.bytes.FedBytes.{FedBytes}
use Rattle.steps.specs.declared.State.{State}
use Rattle.steps.specs.Steps.{Buffers}
use Rattle.terminal.specs.Start.{start_as, started}
use Rattle.steps.specs.Whole.{whole_state, right_sizes}
use Rattle.terminal.specs.Feed.{feed_told, fed, Taken}
use Rattle.terminal.specs.Ask.{asked, ask_told}
use Rattle.terminal.specs.Read.{page_answer, read_answer, read_gives, read_told, cell_read}
use Rattle.terminal.specs.declared.CursorRead.{CursorRead as CursorFound}
use Rattle.terminal.specs.CursorRead.{cursor_told, cursor_read}
use Rattle.record.specs.declared.Terminal.{Terminal}
use Rattle.record.specs.Numbers.{flag_number, is_on}
use Rattle.record.specs.Record.{state_of, record_of, emptied}
use Rattle.record.specs.Plain.{plain}
use Rattle.pankholim.specs.Leaves.{StartLeaves, FeedGives, AskLeaves, AskGives, CursorLeaves}
use Rattle.terminal.proofs.CallLaws.{refusing, asked-done, asked-refused, read_as, fed-broken, fed-size, fitting-refusal, whole-refused}
use Rattle.record.proofs.RecordLaws.{state-back}
use Rattle.record.proofs.PlainLaws.{plain-named, plain-whole}
use Rattle.record.proofs.EmptiedLaws.{untold, emptied-is, whole-named, told}

-- ---- the calls

module _ (t : Terminal) (n : ℕ) (p q : Buffers) where
  pub start-done : (s : State) → start_as Done s q ≡ started n p → StartLeaves t (started n p) 0 (record_of s) q
  start-done s done =
      rw (← done) (record { answer-is = refl; state-is = state-back s; terminal-is = refl; buffers-is = refl })

pub ask-done : (t : Terminal) (s : State) (a : Report) → s ≡ state_of t → ask_told (Ok a) ≡ asked s
    → AskLeaves t (asked (state_of t)) 0 (record_of a.state) a.rows a.count (flag_number a.flag)
ask-done t s a es ed =
    let done = rw es at ed in
    rw (← done)
    (record {
      answer-is = refl;
      state-is = state-back a.state;
      terminal-is = refl;
      changed-is = refl;
      count-is = refl;
      flag_is = refl;
    })

pub ask-refused : (t : Terminal) (s : State) (e : Refused Report) → s ≡ state_of t → ask_told (Err e) ≡ asked s
    → AskGives t (asked (state_of t)) (Err e.refusal)
ask-refused t s e es ed =
    let done = rw es at ed in
    rw (asked-refused (state_of t) e done)
    (record {
      answer-is = refl;
      state-is = refl;
      terminal-is = rw (refusing e.refusal) refl;
      changed-is = refl;
      count-is = refl;
      flag_is = refl;
    })

pub feed-done : (t : Terminal) (s : State) (p : Buffers) (i o : List ℕ) (d : FedBytes) (q : Buffers) (reply : List ℕ) (u : Terminal)
    → s ≡ state_of t → feed_told (Ok d) q reply ≡ fed s p i o → u ≡ record_of d.state
    → FeedGives t (fed (state_of t) p i o) (Ok (record { terminal = u; read = d.read; replied = d.replied; full = d.full })) q reply
feed-done t s p i o d q reply u es ed eu =
    let done = rw es at ed in
    rw (eu, ← done)
    (record {
      answer-is = refl;
      state-is = state-back d.state;
      terminal-is = rw (fitting-refusal d.full) refl;
      buffers-is = refl;
      reply-is = refl;
      read_is = refl;
      replied-is = refl;
    })

pub read-leaves : (t : Terminal) (s : State) (p : List ℕ) (row column : ℕ) (d : Result ℕ (Refused ℕ))
    → s ≡ state_of t → read_told d ≡ cell_read s p row column → read_told d ≡ cell_read (state_of t) p row column
read-leaves t s p row column d es ed = rw es at ed

-- ---- a plain record, told of as it lies

pub ask-plain : (t : Terminal) (count : ℕ) (u : Terminal) → plain t ≡ true → count ≡ size_of t.rows (has_bit t.changed)
    → u ≡ emptied t → AskLeaves t (asked (state_of t)) 0 u t.changed count t.flag
ask-plain t count u e ec eu =
    let n = plain-named t e in
    let k = told t n in
    rw (eu, asked-done (state_of t) (plain-whole t e))
    (record {
      answer-is = refl;
      state-is = ap state_of (sym (emptied-is t n)) ∙ state-back (untold (state_of t));
      terminal-is = sym (emptied-is t n);
      changed-is = sym k.changed;
      count-is = rw (k.rows, k.changed) ec;
      flag_is = sym k.flag;
    })

pub read_plain : (t : Terminal) (p : List ℕ) (row column : ℕ) (d : Result ℕ (Refused ℕ)) → plain t ≡ true
    → read_told d ≡ read_gives (page_answer t.rows p row column) p row column → read_told d ≡ cell_read (state_of t) p row column
read_plain t p row column d e ed =
    let k = told t (plain-named t e) in
    let a : read_answer (state_of t) p row column ≡ page_answer t.rows p row column = rw (plain-whole t e, k.rows) in
    ed ∙ sym (read_as (state_of t) p row column (page_answer t.rows p row column) a)

flag-on : (b : Bool) (n : ℕ) → flag_number b ≡ n → is_on n ≡ b
flag-on true n e = rw (← e) refl
flag-on false n e = rw (← e) refl

pub cursor-plain : (t : Terminal) → plain t ≡ true
    → CursorLeaves (cursor_read (state_of t)) 0 t.cursor.row t.cursor.column t.cursor.wrap t.modes.shown
unfolding cursor_read
cursor-plain t e =
    let k = told t (plain-named t e) in
    rw (plain-whole t e)
    (record { answer-is = refl; row_is = sym k.row; column-is = sym k.column; wrap-is = sym k.wrap; shown-is = sym k.shown })

pub cursor-plain-told : (t : Terminal) → plain t ≡ true
    → cursor_told (Ok (record { row = t.cursor.row; column = t.cursor.column; wrap = is_on t.cursor.wrap; shown = is_on t.modes.shown }))
    ≡ cursor_read (state_of t)
unfolding cursor_read
cursor-plain-told t e =
    let k = told t (plain-named t e) in
    rw (plain-whole t e, k.row, k.column, flag-on _ _ k.wrap, flag-on _ _ k.shown) refl

pub cursor-by-state : (t : Terminal) (s : State) (d : Result CursorFound (Refused CursorFound)) → s ≡ state_of t
    → cursor_told d ≡ cursor_read s → cursor_told d ≡ cursor_read (state_of t)
cursor-by-state t s d es ed = rw es at ed

-- ---- a feeding, by the tests of its record

module _ (t : Terminal) (p : Buffers) (i o : List ℕ) where
  pub feed-sized : whole_state (state_of t) ≡ true → right_sizes t.rows p ≡ false → FeedGives t (fed (state_of t) p i o) (Err R.WrongSize) p o
  feed-sized e h =
      let s : right_sizes (state_of t).displays.core.rows p ≡ false = rw (told t (whole-named t e)).rows h in
      rw (fed-size (state_of t) p i o e s)
      (record { answer-is = refl; state-is = refl; terminal-is = refl; buffers-is = refl; reply-is = refl; read_is = refl; replied-is = refl })

  pub feed-broken : (e : Refusal) → Err e ≡ whole_checked (state_of t) → FeedGives t (fed (state_of t) p i o) (Err e) p o
  feed-broken e h =
      let r = whole-refused (state_of t) e h in
      rw (r.1, fed-broken (state_of t) p i o r.0)
      (record { answer-is = refl; state-is = refl; terminal-is = refl; buffers-is = refl; reply-is = refl; read_is = refl; replied-is = refl })

  pub feed-takes : (s : State) → s ≡ state_of t → whole_state (state_of t) ≡ true → right_sizes t.rows p ≡ true → Taken s p
  feed-takes s es e h = rw es (record { whole = e; sizes = rw (told t (whole-named t e)).rows h })
