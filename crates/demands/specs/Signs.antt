-- What the cells of her page and her line hold, and what a text shows of them.
use Rattle.std.specs.Prelude.{◌≡◌, ℕ, ◌<◌, ◌⊎◌, List, [], ◌∷◌, ◌≢◌}
use Rattle.cells.specs.declared.CharSet.TheVariants.{Ascii, SpecialGraphics, Supplemental}
use Rattle.cells.specs.Cells.{unpacked, Printable}
use Rattle.cells.specs.Rows.{Every}
use Rattle.text.specs.Text.{sign}
use Rattle.steps.specs.Steps.{Buffers}
use Rattle.terminal.specs.Start.{started}
use Rattle.demands.specs.Model.{Call, feeding, asking, reading, rowing}
use Rattle.demands.specs.World as W

-- the input of a call is bytes, as that of a slice of u8 always is
abbrev pub InputBytes : Call → Type 0
InputBytes (feeding i o) = Every (λ b. b < 256) i
InputBytes asking = Unit {0}
InputBytes (reading r c) = Unit {0}
InputBytes (rowing r) = Unit {0}

abbrev pub AllBytes : List W.Item → Type 0
AllBytes [] = Unit {0}
AllBytes (x ∷ xs) = InputBytes x.call × AllBytes xs

-- every cell of page and line has a property
abbrev pub EveryCell : (ℕ → Type 0) → Buffers → Type 0
EveryCell P p = Every P p.page × Every P p.line

-- Page and line were started. After every proper list of calls whose inputs are bytes, every cell of hers holds code 20 to 7E, or 7F of Latin-1,
-- or 1A of ASCII, which SUB puts, and no unused bit; code 20 is of ASCII or Latin-1.
abbrev pub CellsPrintable : Type 0
CellsPrintable = (r : ℕ) (p : Buffers) → (started r p).number ≡ 0 → (xs : List W.Item) → W.Proper (W.opened r p) xs → AllBytes xs
    → EveryCell Printable (W.ends_at (W.opened r p) xs).buffers

-- So the text shows each cell of ASCII, and each of Special Graphics below 5F, as its code, but SUB's as U+2426; and "?" only for
-- Supplemental and for the code of "?" itself: never for a control code.
pub record Shows (w : ℕ) : Type 0 where
  pub ascii : (unpacked w).set ≡ Ascii → ((unpacked w).code ≢ 0x1A) → sign w ≡ (unpacked w).code
  pub substitute : (unpacked w).code ≡ 0x1A → sign w ≡ 0x2426
  pub graphic : (unpacked w).set ≡ SpecialGraphics → (unpacked w).code < 0x5F → sign w ≡ (unpacked w).code
  pub question : sign w ≡ 0x3F → ((unpacked w).set ≡ Supplemental) ⊎ ((unpacked w).code ≡ 0x3F)

abbrev pub CellsShow : Type 0
CellsShow = (r : ℕ) (p : Buffers) → (started r p).number ≡ 0 → (xs : List W.Item) → W.Proper (W.opened r p) xs → AllBytes xs
    → EveryCell Shows (W.ends_at (W.opened r p) xs).buffers
