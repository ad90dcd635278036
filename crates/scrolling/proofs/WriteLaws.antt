-- Text that is written from a row and column on: a run of characters is one paste into its row, and each turn of the loop takes what is written
-- one run, one CR or one LF further.
use mathlib.Core.Path.{◌≡◌, refl, sym, ap, ap₂, ◌∙◌}
use mathlib.Core.Bool.{Bool, true, cond, or-false}
use mathlib.Core.List.{List, [], ◌∷◌, ◌++◌, map}
use Prim.Native.Nat.{ℕ, zero, suc, ◌+◌, ◌-◌, ◌*◌, ◌≤◌, ◌<◌, min}
use native.Mathlib.Nat.{zero-add}
use native.Mathlib.Omega.{arith}
use lib.Dec.{eqb}
use lib.ListN.{length, get_or, take, drop, set, length-set, length-map, length-take, length-drop, take-append-drop}
use lib.Seq.{paste, paste-zero, paste-suc, length-paste, take-suc}
use borrow.Author.Tests.{ne_eqb}
use Rattle.std.proofs.lemmas.List.{nil_from_length, take_all, get_or-map}
use Rattle.ground.specs.Tests.{between}
use Rattle.ground.proofs.TestLaws.{either, or_cases, between-low}
use Rattle.cells.specs.declared.runs.Pen.{Pen}
use Rattle.cells.specs.declared.runs.Put.{Put as Run}
use Rattle.cells.specs.Runs.{pen_word, is_character, PenFits, PutCharacters}
use Rattle.cells.proofs.Storing.{pasted-long}
use Rattle.page.specs.declared.Edit.TheVariants.{Put}
use Rattle.page.specs.Edits.{applied}
use Rattle.page.proofs.EditLaws.{applied-is}
use Rattle.page.proofs.OneRow.{put-edited}
use Rattle.scrolling.specs.declared.ahead.Ahead.{Ahead}
use Rattle.scrolling.specs.declared.region.Region.{Region}
use Rattle.scrolling.specs.Text.{feeds_of, all_text}
use Rattle.scrolling.specs.Lines.{Written, write_byte, written_over, LinesFit, LinesWritten}
use Rattle.scrolling.proofs.TextLaws.{folded-append, feeds-append, text-first, text-rest}

-- ---- a run

-- a put is a word set at its place
put-set : (n : ℕ) (q : List ℕ) (r j w : ℕ) → length q ≡ 80 * n → n ≤ 64 → r < n → j < 80 → applied n (Put r j w) q ≡ set q (80 * r + j) w
put-set n q r j w hq few hr hj =
    sym (applied-is n (Put r j w) q (set q (80 * r + j) w) hq (length-set q (80 * r + j) w ∙ hq) (λ k l.
    (put-edited w (record { top = omega arith; end = omega arith; few = omega arith; left = omega arith; right = omega arith }) refl refl).rows k))

over-append : (n : ℕ) (newline : Bool) (pen : Pen) (s : Written) (xs ys : List ℕ)
    → written_over n newline pen s (xs ++ ys) ≡ written_over n newline pen (written_over n newline pen s xs) ys
unfolding written_over
over-append n newline pen s xs ys = folded-append (write_byte n newline pen) s xs ys

over-one : (n : ℕ) (newline : Bool) (pen : Pen) (s : Written) (b : ℕ) → written_over n newline pen s (b ∷ []) ≡ write_byte n newline pen s b
unfolding written_over
over-one n newline pen s b = refl

-- a character is neither CR nor LF
no-control : (b k : ℕ) → is_character b ≡ true → k < 0x20 → b ≡ k → ⊥
no-control b k e h i =
    or_cases (between 0x20 b 0x7E) (between 0xA1 b 0xFE) e (λ l. omega (arith, between-low 0x20 b 0x7E l)) (λ l. omega (arith, between-low 0xA1 b 0xFE l))

-- page p after k characters from row r and column c on
abbrev put : Pen → List ℕ → ℕ → ℕ → List ℕ → ℕ → Written
put pen p r c ys k = record { page = paste p (80 * r + (c - 1)) (map (pen_word pen) ys) k; row = r; column = min (c + k) 80 }

module _ (n : ℕ) (newline : Bool) (pen : Pen) (p : List ℕ) (r c : ℕ) (hp : length p ≡ 80 * n) (few : n ≤ 64) (hr : r < n) (left : 1 ≤ c) (right : c ≤ 80) where
  one_more : (ys : List ℕ) (k : ℕ) → k < length ys → c + suc k ≤ 81 → is_character (get_or ys k 0) ≡ true
      → write_byte n newline pen (put pen p r c ys k) (get_or ys k 0) ≡ put pen p r c ys (suc k)
  unfolding write_byte
  one_more ys k h room is =
      let y : ℕ = get_or ys k 0 in
      let q : List ℕ = paste p (80 * r + (c - 1)) (map (pen_word pen) ys) k in
      let many : k < length (map (pen_word pen) ys) = simp length-map (omega arith) in
      let long : length (paste p (80 * r + (c - 1)) (map (pen_word pen) ys) k) ≡ 80 * n =
      length-paste p (80 * r + (c - 1)) (map (pen_word pen) ys) k (omega arith) (omega arith) ∙ hp in
      let place : 80 * r + (min (c + k) 80 - 1) ≡ 80 * r + (c - 1) + k = omega arith in
      let stored = put-set n q r (min (c + k) 80 - 1) (pen_word pen y) long few hr (omega arith)
      ∙ ap₂ (set q) place (sym (get_or-map (pen_word pen) ys k 0 0 h)) ∙ paste-suc p (80 * r + (c - 1)) (map (pen_word pen) ys) k 0 (omega arith) many in
      rw (ne_eqb (get_or ys k 0) 0x0D (no-control y 0x0D is (omega arith)), ne_eqb (get_or ys k 0) 0x0A (no-control y 0x0A is (omega arith)))
      (ap₂ (λ (q : List ℕ) (d : ℕ). record { page = q; row = r; column = d }) stored (omega arith))

  run-written : (ys : List ℕ) (k : ℕ) → k ≤ length ys → c + k ≤ 81 → ((j : ℕ) → j < k → is_character (get_or ys j 0) ≡ true)
      → written_over n newline pen (record { page = p; row = r; column = c }) (take k ys) ≡ put pen p r c ys k
  unfolding written_over
  run-written ys zero h room is =
      ap₂ (λ (q : List ℕ) (d : ℕ). record { page = q; row = r; column = d }) (paste-zero p (80 * r + (c - 1)) (map (pen_word pen) ys)) (omega arith)
  run-written ys (suc k) h room is =
      ap (written_over n newline pen (record { page = p; row = r; column = c })) (take-suc ys k 0 (omega arith))
      ∙ over-append n newline pen (record { page = p; row = r; column = c }) (take k ys) (get_or ys k 0 ∷ [])
      ∙ ap (λ (s : Written). write_byte n newline pen s (get_or ys k 0)) (run-written ys k (omega arith) (omega arith) (λ j l. is j (omega arith)))
      ∙ one_more ys k (omega arith) room (is k (omega arith))

-- ---- the loop

-- the text that is left goes on from row k and column c as all of it did from the start, and fits
pub record Writing (n : ℕ) (newline : Bool) (pen : Pen) (start : Written) (text : List ℕ) (p : List ℕ) (k c : ℕ) (rest : List ℕ) : Type 0 where
  pub long : length p ≡ 80 * n
  pub few : n ≤ 64
  pub rows : k + feeds_of rest < n
  pub left : 1 ≤ c
  pub right : c ≤ 80
  pub fits : PenFits pen
  pub plain : all_text rest ≡ true
  pub is : written_over n newline pen start text ≡ written_over n newline pen (record { page = p; row = k; column = c }) rest

pub writing-none : {r : Region} {p : List ℕ} {c : ℕ} {pen : Pen} {a : Ahead} (newline : Bool) → LinesFit r p c pen a
    → let k = r.end - 1 - a.feeds in Writing r.rows newline pen (record { page = p; row = k; column = c }) a.text.now p k c a.text.now
writing-none {r} {p} {c} {pen} {a} newline F =
    record {
      long = F.long;
      few = r.few;
      rows = omega (arith, F.room, r.inside, a.counted);
      left = F.left;
      right = F.right;
      fits = F.fits;
      plain = a.plain;
      is = refl;
    }

module _ {n : ℕ} {newline : Bool} {pen : Pen} {start : Written} {text : List ℕ} {p : List ℕ} {k c b : ℕ} {rest after : List ℕ}
    (W : Writing n newline pen start text p k c rest) (cut : rest ≡ b ∷ after) where
  text-left : all_text after ≡ true
  text-left = text-rest (b ∷ []) after (sym (ap all_text cut) ∙ W.plain)

  feeds-left : feeds_of rest ≡ cond (eqb b 0x0A) 1 0 + feeds_of after
  unfolding feeds_of
  feeds-left = ap feeds_of cut

  -- a byte that is neither LF nor CR is a character
  pub is-character : (b ≡ 0x0A → ⊥) → (b ≡ 0x0D → ⊥) → is_character b ≡ true
  is-character feed return =
      let t = text-first b after (sym (ap all_text cut) ∙ W.plain) in
      let left : between 0x20 b 0x7E ≡ true = rw (ne_eqb b 0x0A feed, ne_eqb b 0x0D return, or-false) at t in
      rw left

  one : written_over n newline pen start text ≡ written_over n newline pen (write_byte n newline pen (record { page = p; row = k; column = c }) b) after
  unfolding written_over
  one = W.is ∙ ap (written_over n newline pen (record { page = p; row = k; column = c })) cut

  pub writing-return : b ≡ 0x0D → Writing n newline pen start text p k 1 after
  unfolding write_byte
  writing-return e =
      let f = rw e at feeds-left in
      record {
        long = W.long;
        few = W.few;
        rows = omega (arith, W.rows);
        left = omega arith;
        right = omega arith;
        fits = W.fits;
        plain = text-left;
        is = rw e at one;
      }

  pub writing-feed : b ≡ 0x0A → Writing n newline pen start text p (k + 1) (cond newline 1 c) after
  unfolding write_byte
  writing-feed e =
      let f = rw e at feeds-left in
      record {
        long = W.long;
        few = W.few;
        rows = omega (arith, W.rows);
        left = either (λ x. 1 ≤ x) newline (λ _. omega arith) (λ _. W.left);
        right = either (λ x. x ≤ 80) newline (λ _. omega arith) (λ _. W.right);
        fits = W.fits;
        plain = text-left;
        is = rw e at one;
      }

-- a run of characters, as many as come in the row and in the text
pub writing-run : {n : ℕ} {newline : Bool} {pen : Pen} {start : Written} {text p : List ℕ} {k c : ℕ} {rest q : List ℕ} {at most : ℕ} {r : Run}
    → Writing n newline pen start text p k c rest → at ≡ 80 * k + (c - 1) → most ≡ min (length rest) (81 - c) → PutCharacters p q at most rest 0 pen r
    → Writing n newline pen start text q k (min (c + r.count) 80) (take (length rest - r.count) (drop r.count rest))
writing-run {n} {newline} {pen} {start} {text} {p} {k} {c} {rest} {q} {at} {most} {r} W place room P =
    let few : r.count ≤ most = P.most in
    let many : r.count ≤ length rest = omega arith in
    let parts : take r.count rest ++ drop r.count rest ≡ rest = take-append-drop r.count rest in
    let f = sym (ap feeds_of parts) ∙ feeds-append (take r.count rest) (drop r.count rest) in
    let paged : q ≡ paste p (80 * k + (c - 1)) (map (pen_word pen) rest) r.count =
    P.pasted.page ∙ ap (λ (x : ℕ). paste p x (map (pen_word pen) rest) r.count) place in
    let all : take (length rest - r.count) (drop r.count rest) ≡ drop r.count rest =
    take_all (length rest - r.count) (drop r.count rest) (omega (arith, length-drop r.count rest)) in
    rw all (record {
      long = pasted-long P.pasted (omega (arith, W.rows, W.left)) (simp length-map (omega arith)) ∙ W.long;
      few = W.few;
      rows = omega (arith, W.rows);
      left = omega (arith, W.left);
      right = omega arith;
      fits = W.fits;
      plain = text-rest (take r.count rest) (drop r.count rest) (ap all_text parts ∙ W.plain);
      is = W.is
          ∙ ap (written_over n newline pen (record { page = p; row = k; column = c })) (sym parts)
          ∙ over-append n newline pen (record { page = p; row = k; column = c }) (take r.count rest) (drop r.count rest)
          ∙ ap (λ (s : Written). written_over n newline pen s (drop r.count rest))
          (run-written n newline pen p k c W.long W.few (omega (arith, W.rows)) W.left W.right rest r.count many (omega arith)
          (λ j l. rw (← zero-add j) (P.characters j l))
          ∙ ap (λ (x : List ℕ). record { page = x; row = k; column = min (c + r.count) 80 }) (sym paged));
    })

-- what is left after a run is shorter
pub run-shorter : (k : ℕ) (rest : List ℕ) → 1 ≤ k → k ≤ length rest → length (take (length rest - k) (drop k rest)) < length rest
run-shorter k rest some h = omega (arith, length-take (length rest - k) (drop k rest), length-drop k rest)

-- after the last turn
pub writing-all : {n : ℕ} {newline : Bool} {pen : Pen} {start : Written} {text : List ℕ} {p : List ℕ} {k c : ℕ} {rest : List ℕ}
    → Writing n newline pen start text p k c rest → length rest ≡ 0 → LinesWritten (written_over n newline pen start text) p c
unfolding written_over
writing-all {n} {newline} {pen} {start} {text} {p} {k} {c} {rest} W none =
    let is = W.is ∙ ap (written_over n newline pen (record { page = p; row = k; column = c })) (nil_from_length rest none) in
    record { page = ap (λ (w : Written). w.page) (sym is); column = ap (λ (w : Written). w.column) (sym is) }
