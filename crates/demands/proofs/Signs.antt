-- The cells of her page and her line are printable: both are the model's, the model's are blank at first, and each byte's edits bring in printable
-- words.
use Rattle.std.proofs.Common.{ℕ, ◌*◌, ◌<◌, List, [], ◌∷◌, length, sym, subst}
use Rattle.cells.specs.Cells.{blank, Printable}
use Rattle.cells.specs.Rows.{Every}
use Rattle.page.specs.Edits.{applied, entering}
use Rattle.page.specs.declared.Edit.{Edit}
use Rattle.cells.proofs.CellLaws.{blank-printable, changed-printable}
use Rattle.page.proofs.EnteringLaws.{every-applied}
use Rattle.cells.proofs.EveryLaws.{every-weaker, every_take, every-replicate}
use Rattle.core_state.specs.StatusLine.{line_view}
use Rattle.core_state.specs.declared.Displays.{Displays}
use Rattle.parser.specs.Parser.{decode}
use Rattle.dispatch.specs.Decide.{decided}
use Rattle.dispatch.specs.Displays.{Edits, Carried, acts_on_line, resets_all, carried, carried_out}
use Rattle.ground.proofs.TestLaws.{either}
use Rattle.wholeness.proofs.SoundWords.{decided-brings}
use Rattle.steps.specs.Steps.{readable}
use Rattle.terminal.specs.Start.{blank_page}
use Rattle.text.proofs.SignLaws.{sign-ascii, sign-substitute, sign-graphic, sign-unshown}
use Rattle.demands.specs.Model as M
use Rattle.demands.specs.Model.{Model, Call, feeding, asking, reading, rowing, byte, bytes}
use Rattle.demands.specs.World as W
use Rattle.demands.specs.World.{World, Item}
use Rattle.demands.specs.Signs.{InputBytes, AllBytes, EveryCell, CellsPrintable, Shows, CellsShow}
use Rattle.demands.proofs.Demand3.{demand-3}

-- ---- the words that a byte's edits bring in, on the page and on the line

abbrev Enters : Edit → Type 0
Enters e = Printable (entering e)

record BringsBoth (x : Carried) : Type 0 where
  page-first : Enters x.page.first
  page-second : Enters x.page.second
  line_first : Enters x.line.first
  line_second : Enters x.line.second

-- a byte on the line is one on a page of one row
brings-both : (k : Displays) (b : ℕ) → b < 256 → BringsBoth (carried_out k b)
unfolding carried_out carried decided line_view
brings-both k b h =
    let a = (decode k.core.parser b).action in
    let on = decided (line_view k.core k.line) b in
    let l = decided-brings (line_view k.core k.line) b h in
    let p = decided-brings k.core b h in
    either BringsBoth (acts_on_line k.line a)
    (λ _. record {
      page-first = blank-printable;
      page-second = blank-printable;
      line_first = l.first;
      line_second = l.second;
    })
    (λ _. record {
      page-first = p.first;
      page-second = p.second;
      line_first = either Enters (resets_all a) (λ _. blank-printable) (λ _. blank-printable);
      line_second = blank-printable;
    })

-- ---- the model

abbrev Clean : Model → Type 0
Clean m = EveryCell Printable m.buffers

edits-clean : (n : ℕ) (x : Edits) (p : List ℕ) → Enters x.first → Enters x.second → Every Printable p
    → Every Printable (applied n x.second (applied n x.first p))
edits-clean n x p f s h =
    let clean = every-applied Printable blank-printable changed-printable in
    clean n x.second (applied n x.first p) s (clean n x.first p f h)

byte-clean : (m : Model) (b : ℕ) → b < 256 → Clean m → Clean (byte m b)
unfolding byte
byte-clean m b h c =
    let x = carried_out m.displays b in
    let w = brings-both m.displays b h in (
      edits-clean m.displays.core.rows x.page m.buffers.page w.page-first w.page-second c.0,
      edits-clean 1 x.line m.buffers.line w.line_first w.line_second c.1,
    )

bytes-clean : (m : Model) (bs : List ℕ) → Every (λ b. b < 256) bs → Clean m → Clean (bytes m bs)
unfolding bytes
bytes-clean m [] h c = c
bytes-clean m (b ∷ bs) h c = bytes-clean (byte m b) bs h.1 (byte-clean m b h.0 c)

call-clean : (m : Model) (call : Call) → InputBytes call → Clean m → Clean (M.after_call m call)
call-clean m (feeding i o) h c = bytes-clean m (M.taken m i o) (every_take (λ b. b < 256) (readable (length o) m.displays i) i h) c
call-clean m asking h c = c
call-clean m (reading r k) h c = c
call-clean m (rowing r) h c = c

ends-clean : (w : World) (m : Model) (xs : List Item) → AllBytes xs → Clean m → Clean (M.ends m (W.notices_of w xs))
unfolding W.notices_of M.ends
ends-clean w m [] h c = c
ends-clean w m (x ∷ xs) h c =
    ends-clean (W.next w x) (M.after_notice m (W.notice_of w x)) xs h.1 (either Clean (W.is_refused w x) (λ _. c) (λ _. call-clean m x.call h.0 c))

-- ---- her page and her line

pub cells-are-printable : CellsPrintable
cells-are-printable r p h xs P B =
    let a = demand-3 r p h xs P in
    let blanks : (n : ℕ) → Every Printable (blank_page n) = λ n. every-replicate Printable (80 * n) blank blank-printable in
    let c = ends-clean (W.opened r p) (M.begun r) xs B (blanks r, blanks 1) in
    (subst (Every Printable) (sym a.page) c.0, subst (Every Printable) (sym a.line) c.1)

-- ---- a text of them

shows : (w : ℕ) → Printable w → Shows w
shows w h = record { ascii = sign-ascii w h; substitute = sign-substitute w h; graphic = sign-graphic w h; question = sign-unshown w h }

pub cells-show : CellsShow
cells-show r p h xs P B =
    let c = cells-are-printable r p h xs P B in
    let q = (W.ends_at (W.opened r p) xs).buffers in
    (every-weaker Printable Shows shows q.page c.0, every-weaker Printable Shows shows q.line c.1)
