-- Characters that a plain record takes in place are all that a feeding of them does.
use Rattle.std.proofs.Common.{◌≡◌, ℕ, ◌+◌, ◌-◌, ◌*◌, ◌^◌, ◌<◌, ◌≤◌, Bool, true, false, eqb, ltb, leb, List, [], ◌∷◌, map, length, get_or, sym, refl, ap, ◌∙◌, zero-add, arith, ltb-true, eqb-true, le-leb, leb-true}
use lib.Bits.{bit_or}
use lib.ListN.{length-map}
use Rattle.std.proofs.lemmas.List.{get_or-map}
use Rattle.ground.proofs.TestLaws.{and_left, between-high, at-number}
use Rattle.cells.specs.declared.CharSet.TheVariants.{Ascii}
use Rattle.cells.specs.Cells.{bit, packed}
use Rattle.cells.specs.Segments.{Pasted}
use Rattle.cells.proofs.CellLaws.{packed-small}
use Rattle.device.specs.Charsets.{left_set}
use Rattle.core_state.specs.declared.Core.{Core}
use Rattle.core_state.specs.Bounds.{OnPage}
use Rattle.core_state.specs.Effects.{with_cursor}
use Rattle.core_state.specs.Glyphs.{glyph}
use Rattle.steps.specs.declared.State.{State}
use Rattle.steps.specs.Steps.{buffers}
use Rattle.steps.specs.Ready.{Ready}
use Rattle.steps.specs.Whole.{WholeState}
use Rattle.steps.proofs.ByteLaws.{ready-paged}
use Rattle.spans.specs.Spans.{Spanned}
use Rattle.spans.specs.Characters.{Direct, advance_by}
use Rattle.spans.proofs.CharacterLaws.{Run, run-spanned}
use Rattle.feeding.proofs.OnceLaws.{page_done, once-fed}
use Rattle.record.specs.declared.Terminal.{Terminal}
use Rattle.record.specs.Numbers.{is_on}
use Rattle.record.specs.Record.{rendition_of, rendition_named, sets_named, core_of, named, state_of, record_of}
use Rattle.record.specs.Plain.{flag_tests, plain_signs, plain}
use Rattle.record.proofs.PlainLaws.{every-at, plain-facts, off, inactive, plain-named, plain-whole}
use Rattle.record.proofs.EmptiedLaws.{told, record-back}
use Rattle.terminal.specs.Answers.{Done}
use Rattle.terminal.specs.Feed.{feed_as}
use Rattle.terminal.proofs.CallLaws.{state-facts, fit-sizes, fed-bytes}
use Rattle.inplace.specs.InPlace.{all_ascii, takes_in_place, base_of, place_of, moved_by, FedInPlace}
use Rattle.inplace.proofs.AsciiLaws.{ascii-at, ascii-glyph}

-- ---- what the tests tell

pub record Taking (t : Terminal) (input : List ℕ) : Type 0 where
  pub phase : t.parser.phase ≡ 0
  pub shift : t.shift ≡ 0
  pub insert : t.modes.insert ≡ 0
  pub g0 : t.sets.g0 ≡ 0
  pub gl : t.sets.gl ≡ 0
  pub few : length input ≤ 16
  pub room : t.cursor.column + length input ≤ 80
  pub ascii : all_ascii input ≡ true

pub taking : (t : Terminal) (input : List ℕ) → takes_in_place t input ≡ true → Taking t input
unfolding takes_in_place
taking t input e =
    let at = every-at (eqb t.parser.phase 0 ∷ eqb t.shift 0 ∷ eqb t.modes.insert 0 ∷ eqb t.sets.g0 0 ∷ eqb t.sets.gl 0
    ∷ leb (length input) 16 ∷ leb (t.cursor.column + length input) 80 ∷ all_ascii input ∷ []) e in
    record {
      phase = eqb-true t.parser.phase 0 (at 0);
      shift = eqb-true t.shift 0 (at 1);
      insert = eqb-true t.modes.insert 0 (at 2);
      g0 = eqb-true t.sets.g0 0 (at 3);
      gl = eqb-true t.sets.gl 0 (at 4);
      few = leb-true (length input) 16 (at 5);
      room = leb-true (t.cursor.column + length input) 80 (at 6);
      ascii = at 7;
    }

-- the flags of a plain record, as numbers
pub record Flags (t : Terminal) : Type 0 where
  pub bold : t.rendition.bold < 2
  pub underline : t.rendition.underline < 2
  pub blink : t.rendition.blink < 2
  pub reverse : t.rendition.reverse < 2
  pub protected : t.protected < 2

pub flags : (t : Terminal) → plain t ≡ true → Flags t
unfolding flag_tests
flags t e =
    let w = plain-facts t e in
    let r = t.rendition in
    let signs = every-at (plain_signs t.rendition t.sets ∷ plain_signs t.saved.rendition t.saved.sets
    ∷ plain_signs t.status.saved.rendition t.status.saved.sets ∷ []) w.look 0 in
    let at = every-at (ltb r.bold 2 ∷ ltb r.underline 2 ∷ ltb r.blink 2 ∷ ltb r.reverse 2 ∷ []) (and_left (rendition_named r) (sets_named t.sets) signs) in
    record {
      bold = ltb-true r.bold 2 (at 0);
      underline = ltb-true r.underline 2 (at 1);
      blink = ltb-true r.blink 2 (at 2);
      reverse = ltb-true r.reverse 2 (at 3);
      protected = ltb-true t.protected 2 (every-at (flag_tests t) w.flags 12);
    }

flag-bit : (n : ℕ) → n < 2 → n ≡ bit (is_on n)
flag-bit n h =
    let P : ℕ → Type 0 = λ x. x ≡ bit (is_on x) in
    at-number P n 0 refl (λ a. at-number P n 1 refl (λ b. absurd (omega arith)))

pub base-is : (t : Terminal) → Flags t → let r = t.rendition in
    r.bold * 512 + r.underline * 1024 + r.blink * 2048 + r.reverse * 4096 + t.protected * 8192 ≡ base_of t
unfolding packed
base-is t w =
    let r = t.rendition in
    omega (
      arith,
      flag-bit r.bold w.bold,
      flag-bit r.underline w.underline,
      flag-bit r.blink w.blink,
      flag-bit r.reverse w.reverse,
      flag-bit t.protected w.protected,
    )

pub base-fits : (t : Terminal) → base_of t ≤ 65280
base-fits t = omega (arith, packed-small (record { code = 0; set = Ascii; rendition = rendition_of t.rendition; protected = is_on t.protected }))

-- ---- a plain record

module _ (t : Terminal) (e : plain t ≡ true) where
  whole : WholeState (state_of t)
  whole = state-facts (state_of t) (plain-whole t e)

  pub few-rows : t.rows ≤ 48
  few-rows = omega (arith, (told t (plain-named t e)).rows, whole.displays.core.parts.bounds.count.high)

  pub on-page : OnPage t.rows t.cursor.row t.cursor.column
  on-page =
      let k = told t (plain-named t e) in
      let u = whole.displays.core.parts.bounds.cursor in
      record {
        row_low = omega (arith, k.row, u.row_low);
        row-high = omega (arith, k.row, k.rows, u.row-high);
        column-low = omega (arith, k.column, u.column-low);
        column-high = omega (arith, k.column, u.column-high);
      }

  pub page-active : (state_of t).displays.line.active ≡ false
  unfolding state_of
  page-active = rw (inactive t (plain-facts t e))

  module _ (p : List ℕ) (long : length p ≡ 80 * t.rows) where
    pub sized : length p ≡ 80 * (state_of t).displays.core.rows
    sized = long ∙ ap (λ (n : ℕ). 80 * n) (sym (told t (plain-named t e)).rows)

    pub ready : Ready (state_of t) p
    ready = record { whole = whole; size = sized }

  -- the record after characters is that of its state, which differs in the cursor's column and the changed rows
  module _ (k : ℕ) (changed : Bool) where
    moved_back : moved_by t k changed ≡ record_of (state_of (moved_by t k changed))
    unfolding moved_by named
    moved_back = sym (record-back (moved_by t k changed) (plain-named t e) refl)

    moved-state : t.cursor.column + k ≤ 80 → let s = state_of t in let c = s.displays.core in
        state_of (moved_by t k changed)
        ≡ page_done s (with_cursor c (advance_by c.cursor k c.modes.autowrap)) (bit_or s.tracked.changed (bit changed * 2 ^ (c.cursor.row - 1)))
    unfolding state_of core_of moved_by named
    moved-state h = rw (le-leb (t.cursor.column + k) 80 h, off t (plain-facts t e))

-- ---- with the characters that it takes

module _ (t : Terminal) (e : plain t ≡ true) (input : List ℕ) (T : Taking t input) (p : List ℕ) (long : length p ≡ 80 * t.rows) where
  abbrev s : State
  s = state_of t

  abbrev c : Core
  c = s.displays.core

  abbrev words : List ℕ
  words = map (λ (b : ℕ). base_of t + b) input

  direct : Direct c p
  unfolding state_of core_of
  direct = record { direct = rw (T.phase, T.shift, off t (plain-facts t e)); paged = ready-paged s p (ready t e p long) }

  insert-off : c.modes.insert ≡ false
  unfolding state_of core_of
  insert-off = rw T.insert

  left-ascii : left_set c.sets c.shift ≡ Ascii
  unfolding state_of core_of
  left-ascii = rw (T.shift, T.gl, T.g0)

  word_at : (j : ℕ) → j < length input → get_or words j 0 ≡ glyph c (get_or input (0 + j) 0)
  unfolding state_of core_of
  word_at j h =
      let b = get_or input j 0 in
      get_or-map (λ (b : ℕ). base_of t + b) input j 0 0 h
      ∙ ascii-glyph c b left-ascii (between-high 0x20 b 0x7E (ascii-at input T.ascii j h))
      ∙ ap (λ (i : ℕ). glyph c (get_or input i 0)) (sym (zero-add j))

  run : Run c s.tracked.changed p input 0 words direct insert-off (length input)
  run = record {
    room = omega (arith, T.room, (told t (plain-named t e)).column);
    end = omega arith;
    words = omega (arith, length-map input (λ (b : ℕ). base_of t + b));
    characters = λ j h. rw (zero-add j, ascii-at input T.ascii j h);
    glyphs = word_at;
  }

  module _ (q : List ℕ) (changed : Bool) (P : Pasted p q (place_of t) words (length input) changed) where
    abbrev after : Core
    after = with_cursor c (advance_by c.cursor (length input) c.modes.autowrap)

    abbrev marked : ℕ
    marked = bit_or s.tracked.changed (bit changed * 2 ^ (c.cursor.row - 1))

    spanned : Spanned c s.tracked.changed p input 0 (length input) after marked q
    unfolding state_of core_of
    spanned =
        rw (P.page, P.flagged) (rw (zero-add (length input)) at (run-spanned c s.tracked.changed p input 0 words direct insert-off (length input) run))

    pub fed-in-place : FedInPlace t p input (moved_by t (length input) changed) q
    fed-in-place = record {
      fed-is = λ line reply h.
          ap (λ (x : State). feed_as Done (length input) 0 x (buffers q line) reply) (moved-state t e (length input) changed T.room)
          ∙ fed-bytes s (buffers p line) input reply _ (once-fed s (buffers p line) input reply after marked q (ready t e p long) h (page-active t e) spanned)
          (plain-whole t e) (fit-sizes c.rows (buffers p line) (sized t e p long) h);
      back = moved_back t e (length input) changed;
    }
