-- Runs of bytes that do not interrupt: byte by byte, and those that only move the parser.
use Rattle.std.proofs.Common.{◌≡◌, ℕ, ◌+◌, ◌<◌, ◌≤◌, List, [], ◌∷◌, ◌++◌, length, get_or, sym, refl, ap, ◌∙◌, subst, arith}
use lib.Bits.{bit_or, or_zero_r}
use Rattle.parser.specs.declared.parser.Parser.{Parser}
use Rattle.parser.specs.declared.parser.Action.TheVariants.{Nothing}
use Rattle.idle.specs.declared.Idle.{Idle}
use Rattle.parser.specs.Parser.{decode}
use Rattle.idle.specs.Idle.{parsed, AllIdle, Skipped}
use Rattle.ground.specs.Spans.{span}
use Rattle.ground.proofs.SpanLaws.{span_none, span_more, span-append}
use Rattle.core_state.specs.declared.Core.{Core}
use Rattle.core_state.specs.declared.Decision.{Decision}
use Rattle.core_state.specs.Effects.{with_parser, unedited}
use Rattle.dispatch.specs.WrapDue.{clears_wrap}
use Rattle.dispatch.specs.Decide.{executed, decided}
use Rattle.dispatch.specs.Events.{is_eventful}
use Rattle.steps.specs.Steps.{edited_by}
use Rattle.steps.specs.OneDisplay.{Display, display, edits_of, acts, acts_over, core_over, lasting, AllQuiet}
use Rattle.steps.specs.Ready.{Paged}
use Rattle.spans.specs.Spans.{Spanned, ByteDone}
use Rattle.steps.proofs.DisplayLaws.{and_same, over-append, acts-core, over-core, lasting-append, quiet-append, PagedAt, acts-paged, acts-long, over-paged}

-- ---- none

pub spanned-none : (c : Core) (n : ℕ) (p input : List ℕ) (from : ℕ) → Paged c p → from ≤ length input → Spanned c n p input from from c n p
unfolding acts_over AllQuiet lasting
spanned-none c n p input from k h = record {
  start = omega arith;
  end = h;
  display-is = rw (span_none input from);
  quiet = rw (span_none input from) tt;
  lasts = rw (span_none input from);
  autowrap = refl;
  paged = k;
  long = refl;
}

-- and those after them
module _ {c : Core} {n : ℕ} {p input : List ℕ} {from i : ℕ} {c' : Core} {n' : ℕ} {p' : List ℕ} (R : Spanned c n p input from i c' n' p') where
  core_is : c' ≡ core_over c (span input from i)
  core_is = ap (λ (d : Display). d.core) R.display-is ∙ over-core (display c p n) (span input from i)

  pub spanned-append : {j : ℕ} {c'' : Core} {n'' : ℕ} {p'' : List ℕ} → Spanned c' n' p' input i j c'' n'' p'' → Spanned c n p input from j c'' n'' p''
  spanned-append {j} {c''} {n''} {p''} S =
      let xs : List ℕ = span input from i in
      let ys : List ℕ = span input i j in
      let both : span input from j ≡ xs ++ ys = span-append input from i j R.start S.start in
      record {
        start = omega (arith, R.start, S.start);
        end = S.end;
        display-is = cc (S.display-is, R.display-is, over-append (display c p n) xs ys, both);
        quiet = rw both (quiet-append c xs ys R.quiet (subst (λ (x : Core). AllQuiet x ys) core_is S.quiet));
        lasts = rw (both, lasting-append c xs ys, R.lasts, ← core_is, S.lasts, R.autowrap) (and_same c.modes.autowrap);
        autowrap = S.autowrap ∙ R.autowrap;
        paged = S.paged;
        long = S.long ∙ R.long;
      }

-- ---- byte by byte

spanned-one : (c : Core) (n : ℕ) (p input : List ℕ) (i b : ℕ) (c' : Core) (n' : ℕ) (p' : List ℕ) → Paged c p → i < length input → b ≡ get_or input i 0
    → ByteDone c n p b c' n' p' → Spanned c n p input i (i + 1) c' n' p'
unfolding acts_over AllQuiet lasting
spanned-one c n p input i b c' n' p' k l eb D =
    let one : span input i (i + 1) ≡ b ∷ [] = rw (eb, span_more input i i (omega arith) l) (ap (λ (xs : List ℕ). xs ++ (get_or input i 0 ∷ [])) (span_none input i)) in
    let core_is : (decided c b).core ≡ c' = sym (acts-core (display c p n) b) ∙ sym (ap (λ (d : Display). d.core) D.display-is) in
    record {
      start = omega arith;
      end = omega arith;
      display-is = rw one D.display-is;
      quiet = rw one (D.quiet, tt);
      lasts = rw (one, core_is, D.autowrap) (and_same c.modes.autowrap);
      autowrap = D.autowrap;
      paged = subst PagedAt (sym D.display-is) (acts-paged (display c p n) b k);
      long = ap (λ (d : Display). length d.cells) D.display-is ∙ acts-long (display c p n) b k;
    }

-- one more
pub spanned-more : {c : Core} {n : ℕ} {p input : List ℕ} {from i : ℕ} {c' : Core} {n' : ℕ} {p' : List ℕ} → Spanned c n p input from i c' n' p' → i < length input
    → (b : ℕ) → b ≡ get_or input i 0 → {c'' : Core} {n'' : ℕ} {p'' : List ℕ} → ByteDone c' n' p' b c'' n'' p'' → Spanned c n p input from (i + 1) c'' n'' p''
spanned-more R l b eb D = spanned-append R (spanned-one _ _ _ _ _ b _ _ _ R.paged l eb D)

-- ---- bytes that only move the parser

idle-decided : (c : Core) (b : ℕ) → (decode c.parser b).action ≡ Nothing → decided c b ≡ unedited (with_parser c (decode c.parser b).parser)
unfolding decided executed clears_wrap
idle-decided c b e = ap (executed (with_parser c (decode c.parser b).parser)) e

idle-acts : (d : Display) (b : ℕ) → (decode d.core.parser b).action ≡ Nothing
    → acts d b ≡ display (with_parser d.core (decode d.core.parser b).parser) d.cells d.changed
unfolding acts
idle-acts d b e =
    ap (λ (x : Decision). let m = edited_by d.core.rows (edits_of x) d.cells in display x.core m.page (bit_or d.changed m.changed)) (idle-decided d.core b e)
    ∙ ap (display (with_parser d.core (decode d.core.parser b).parser) d.cells) (or_zero_r d.changed)

idle-over : (d : Display) (bs : List ℕ) → AllIdle d.core.parser bs → acts_over d bs ≡ display (with_parser d.core (parsed d.core.parser bs)) d.cells d.changed
unfolding acts_over parsed AllIdle
idle-over d [] h = refl
idle-over d (b ∷ bs) (e, h) =
    rw (idle-acts d b e) (idle-over (display (with_parser d.core (decode d.core.parser b).parser) d.cells d.changed) bs h)

idle-quiet : (c : Core) (bs : List ℕ) → AllIdle c.parser bs → AllQuiet c bs
unfolding AllQuiet AllIdle
idle-quiet c [] h = tt
idle-quiet c (b ∷ bs) (e, h) =
    (ap is_eventful e, rw (idle-decided c b e) (idle-quiet (with_parser c (decode c.parser b).parser) bs h))

idle-lasting : (c : Core) (bs : List ℕ) → AllIdle c.parser bs → lasting c bs ≡ c.modes.autowrap
unfolding lasting AllIdle
idle-lasting c [] h = refl
idle-lasting c (b ∷ bs) (e, h) =
    rw (idle-decided c b e, idle-lasting (with_parser c (decode c.parser b).parser) bs h) (and_same c.modes.autowrap)

pub spanned-idle : (c : Core) (n : ℕ) (p input : List ℕ) (from : ℕ) (r : Idle) → Paged c p → Skipped c.parser input from r
    → Spanned c n p input from r.next (with_parser c r.parser) n p
spanned-idle c n p input from r k S =
    let xs : List ℕ = span input from r.next in
    let is : display (with_parser c r.parser) p n ≡ acts_over (display c p n) xs =
    ap (λ (q : Parser). display (with_parser c q) p n) S.parser-is ∙ sym (idle-over (display c p n) xs S.idle) in
    record {
      start = S.start;
      end = S.end;
      display-is = is;
      quiet = idle-quiet c xs S.idle;
      lasts = idle-lasting c xs S.idle;
      autowrap = refl;
      paged = subst PagedAt (sym is) (over-paged (display c p n) xs k);
      long = refl;
    }
