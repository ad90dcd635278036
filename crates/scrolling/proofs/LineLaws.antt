-- Text written into the rows where it ends up is text written line by line with a scroll at each line feed. While `a` line feeds are still to come,
-- the page in hand is the definition's page after a scroll by `a` more: a put keeps that, since it goes `a` rows higher; a line feed takes one of
-- the `a`, and CR changes no page.
use mathlib.Core.Path.{◌≡◌, refl, sym, ap, ap₂, ◌∙◌}
use mathlib.Core.Bool.{Bool, cond}
use mathlib.Core.List.{List, [], ◌∷◌}
use mathlib.Core.Logic.{⊎_elim}
use Prim.Native.Nat.{ℕ, ◌+◌, ◌-◌, ◌*◌, ◌≤◌, ◌<◌, min}
use native.Mathlib.Nat.{zero-add}
use native.Mathlib.Omega.{arith}
use lib.Dec.{eqb}
use lib.ListN.{length}
use borrow.Author.Tests.{ne_eqb}
use Rattle.ground.proofs.ListLaws.{split-eq}
use Rattle.ground.proofs.TestLaws.{either}
use Rattle.cells.specs.declared.runs.Pen.{Pen}
use Rattle.cells.specs.Runs.{pen_word}
use Rattle.page.specs.declared.Edit.TheVariants.{Put, ScrollUp}
use Rattle.page.specs.Edits.{applied}
use Rattle.scrolling.specs.declared.ahead.Ahead.{Ahead}
use Rattle.scrolling.specs.declared.region.Region.{Region}
use Rattle.scrolling.specs.Text.{feeds_of}
use Rattle.scrolling.specs.Lines.{Lines, Written, line_byte, lines_over, write_byte, written_over, LinesWritten, LinesFit}
use Rattle.scrolling.proofs.ScrollLaws.{up-length, up_none, up-twice, put-length, put-ahead}

-- a page that is `a` scrolls ahead of the definition's
pub record Before (n t e a : ℕ) (s : Lines) (w : Written) : Type 0 where
  pub long : length s.page ≡ 80 * n
  pub page : w.page ≡ applied n (ScrollUp t e 0 80 a) s.page
  pub row : w.row ≡ e - 1 - a
  pub column : w.column ≡ s.column
  pub left : 1 ≤ s.column
  pub right : s.column ≤ 80

module _ (n t e : ℕ) (newline : Bool) (pen : Pen) (he : e ≤ n) where
  -- ---- one byte

  after-return : {a : ℕ} {s : Lines} {w : Written} → Before n t e a s w
      → Before n t e a (record { page = s.page; column = 1 }) (record { page = w.page; row = w.row; column = 1 })
  after-return A = record { long = A.long; page = A.page; row = A.row; column = refl; left = omega arith; right = omega arith }

  after-feed : (a : ℕ) (s : Lines) (w : Written) → t + (1 + a) < e → Before n t e (1 + a) s w
      → Before n t e a (record { page = applied n (ScrollUp t e 0 80 1) s.page; column = cond newline 1 s.column })
      (record { page = w.page; row = w.row + 1; column = cond newline 1 w.column })
  after-feed a s w h A =
      let sum : 1 + a ≡ a + 1 = omega arith in
      record {
        long = up-length n t e s.page A.long (omega arith) he 1 (omega arith);
        page = A.page ∙ ap (λ (k : ℕ). applied n (ScrollUp t e 0 80 k) s.page) sum
            ∙ sym (up-twice n t e s.page A.long (omega arith) he a 1 (omega arith));
        row = omega arith;
        column = ap (cond newline 1) A.column;
        left = either (λ x. 1 ≤ x) newline (λ _. omega arith) (λ _. A.left);
        right = either (λ x. x ≤ 80) newline (λ _. omega arith) (λ _. A.right);
      }

  after-put : (a : ℕ) (s : Lines) (w : Written) (word : ℕ) → t + a < e → Before n t e a s w
      → Before n t e a (record { page = applied n (Put (e - 1) (s.column - 1) word) s.page; column = min (s.column + 1) 80 })
      (record { page = applied n (Put w.row (w.column - 1) word) w.page; row = w.row; column = min (w.column + 1) 80 })
  after-put a s w word h A =
      record {
        long = put-length n t e s.page A.long (omega arith) he (e - 1) (s.column - 1) word (omega arith) (omega arith);
        page = rw (A.page, A.row, A.column)
            (sym (put-ahead n t e s.page A.long (omega arith) he (e - 1) (s.column - 1) word (omega arith) (omega arith) a (omega arith)));
        row = A.row;
        column = ap (λ (k : ℕ). min (k + 1) 80) A.column;
        left = omega arith;
        right = omega arith;
      }

  after-byte : (b a : ℕ) (s : Lines) (w : Written) → t + (cond (eqb b 0x0A) 1 0 + a) < e → Before n t e (cond (eqb b 0x0A) 1 0 + a) s w
      → Before n t e a (line_byte n t e newline pen s b) (write_byte n newline pen w b)
  unfolding line_byte write_byte
  after-byte b a s w h A =
      let other : (b ≡ 0x0A → ⊥) → Before n t e a s w = λ no. let q = zero-add a in rw (ne_eqb b 0x0A no, q) at A in
      ⊎_elim
      (λ (cr : b ≡ 0x0D). rw cr (after-return (other (omega arith))))
      (λ (no : b ≡ 0x0D → ⊥). ⊎_elim
      (λ (lf : b ≡ 0x0A). rw lf (after-feed a s w (rw lf at h) (rw lf at A)))
      (λ (no' : b ≡ 0x0A → ⊥). rw (ne_eqb b 0x0D no, ne_eqb b 0x0A no') (after-put a s w (pen_word pen b) (omega arith) (other no')))
      (split-eq b 0x0A))
      (split-eq b 0x0D)

  -- ---- text

  pub lines-before : (bs : List ℕ) (s : Lines) (w : Written) → t + feeds_of bs < e → Before n t e (feeds_of bs) s w
      → lines_over n t e newline pen s bs ≡ record { page = (written_over n newline pen w bs).page; column = (written_over n newline pen w bs).column }
  unfolding lines_over written_over feeds_of
  lines-before [] s w h A =
      let none = up_none n t e s.page A.long (omega arith) he in
      ap₂ (λ (p : List ℕ) (c : ℕ). record { page = p; column = c }) (sym none ∙ sym A.page) (sym A.column)
  lines-before (b ∷ bs) s w h A =
      lines-before bs (line_byte n t e newline pen s b) (write_byte n newline pen w b) (omega arith) (after-byte b (feeds_of bs) s w h A)

  -- a line feed and then text, with the scrolls done first
  pub lines-scrolled : (p : List ℕ) (c : ℕ) (bs : List ℕ) → length p ≡ 80 * n → t + feeds_of bs < e → 1 ≤ c → c ≤ 80
      → lines_over n t e newline pen (record { page = applied n (ScrollUp t e 0 80 1) p; column = c }) bs
      ≡ (let w = written_over n newline pen (record { page = applied n (ScrollUp t e 0 80 (feeds_of bs + 1)) p; row = e - 1 - feeds_of bs; column = c }) bs in
      record { page = w.page; column = w.column })
  lines-scrolled p c bs hp h l r =
      lines-before bs _ _ h (record {
        long = up-length n t e p hp (omega arith) he 1 (omega arith);
        page = sym (up-twice n t e p hp (omega arith) he (feeds_of bs) 1 (omega arith));
        row = refl;
        column = refl;
        left = l;
        right = r;
      })

-- ---- what is promised

begun-alike : {p q : List ℕ} {a b c d : ℕ} (e : ℕ) → p ≡ q → a ≡ b → c ≡ d
    → ◌≡◌ {A = Written} (record { page = p; row = e - 1 - a; column = c }) (record { page = q; row = e - 1 - b; column = d })
begun-alike e x y z = λ i. record { page = x i; row = e - 1 - y i; column = z i }

module _ {r : Region} {p : List ℕ} {c : ℕ} {pen : Pen} {a : Ahead} (newline : Bool) (F : LinesFit r p c pen a) {q : List ℕ} {d : ℕ}
    (scrolled : q ≡ applied r.rows (ScrollUp r.top r.end 0 80 (a.feeds + 1)) p) (begun : d ≡ cond newline 1 c) where
  pub lines-fit : LinesFit r q d pen a
  lines-fit = record {
    long = ap length scrolled ∙ up-length r.rows r.top r.end p F.long (omega (arith, r.some)) r.inside (a.feeds + 1) (omega (arith, F.room));
    room = F.room;
    left = rw begun (either (λ x. 1 ≤ x) newline (λ _. omega arith) (λ _. F.left));
    right = rw begun (either (λ x. x ≤ 80) newline (λ _. omega arith) (λ _. F.right));
    fits = F.fits;
  }

  pub text-written : {q' : List ℕ} {d' : ℕ}
      → LinesWritten (written_over r.rows newline pen (record { page = q; row = r.end - 1 - a.feeds; column = d }) a.text.now) q' d'
      → record { page = q'; column = d' }
      ≡ lines_over r.rows r.top r.end newline pen (record { page = applied r.rows (ScrollUp r.top r.end 0 80 1) p; column = cond newline 1 c }) a.text.now
  text-written {q'} {d'} W =
      let bs : List ℕ = a.text.now in
      ap₂ (λ (x : List ℕ) (y : ℕ). record { page = x; column = y }) W.page W.column
      ∙ ap (λ (w : Written). record { page = (written_over r.rows newline pen w bs).page; column = (written_over r.rows newline pen w bs).column })
      (begun-alike r.end (scrolled ∙ ap (λ (k : ℕ). applied r.rows (ScrollUp r.top r.end 0 80 (k + 1)) p) a.counted) a.counted begun)
      ∙ sym (lines-scrolled r.rows r.top r.end newline pen r.inside p (cond newline 1 c) bs F.long (omega (arith, F.room, a.counted))
      (either (λ x. 1 ≤ x) newline (λ _. omega arith) (λ _. F.left)) (either (λ x. x ≤ 80) newline (λ _. omega arith) (λ _. F.right)))
