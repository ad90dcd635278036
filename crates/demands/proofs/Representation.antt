-- The representation: each statement is a law of the crate that has the definition.
use Rattle.std.proofs.Common.{ℕ, ◌-◌, ◌/◌, ◌%◌, ◌^◌, ◌<◌, sym, refl, ap, ◌∙◌, subst, arith}
use Rattle.cells.specs.Cells.{unpacked}
use Rattle.cells.proofs.CellLaws.{cell-back, same_word, packed-small, set_at, blank-packed, erased-protected, erased-other, spaced-back, spaced-small}
use Rattle.cells.proofs.CellLaws.{restyled-back, restyled-small}
use Rattle.demands.specs.Representation.{CellBack, SameWord, UnusedZero, DocumentedBits, BlankWord, SelectiveErasure, Restyling, TenBytes, TabSet}
use Rattle.demands.specs.Representation.{TabCleared, TabsNone, TabsFresh, TabNext, Decimals}
use Rattle.device.proofs.TabLaws as tabs
use Rattle.ground.proofs.DecimalLaws.{decimal-value, decimal-digits, decimal-first, some-digit, decimal-length}
use Rattle.core_state.specs.Fresh.{fresh_core}

-- ---- cells

pub cells-come-back : CellBack
cells-come-back = cell-back

pub words-tell-cells : SameWord
words-tell-cells = same_word

pub unused-bits-are-zero : UnusedZero
unused-bits-are-zero = packed-small

pub fields-are-at-bits : DocumentedBits
unfolding unpacked
fields-are-at-bits w = record {
  code = refl;
  set = set_at (w / 128 % 4) (omega arith);
  bold = refl;
  underline = refl;
  blink = refl;
  reverse = refl;
  protected = refl;
}

pub blank-is-packed : BlankWord
blank-is-packed = sym blank-packed

pub selective-erase-leaves : SelectiveErasure
selective-erase-leaves w = record {
  skipped = erased-protected w;
  cell = λ e. ap unpacked (erased-other w e) ∙ spaced-back w;
  unused = λ e. subst (λ (v : ℕ). v < 2 ^ 14) (sym (erased-other w e)) (spaced-small w);
}

pub restyling-leaves : Restyling
restyling-leaves s w = record { cell = restyled-back s w; unused = restyled-small s w }

-- ---- tabs

pub tabs-stay-ten : TenBytes
unfolding fresh_core
tabs-stay-ten r t c h = record { set = tabs.set_long t c ∙ h; cleared = tabs.clear-long t c ∙ h; none = refl; begun = refl }

pub tab-is-set : TabSet
tab-is-set t c d ten hc hd = tabs.tab-set t c d ten hc.low hc.high hd.low

pub tab-is-cleared : TabCleared
tab-is-cleared t c d ten hc hd = tabs.tab-cleared t c d ten hc.low hc.high hd.low

pub none-is-set : TabsNone
none-is-set d h = tabs.tab-none d h.high

pub fresh-tabs : TabsFresh
unfolding fresh_core
fresh-tabs r = tabs.fresh-tabs

pub next-is-first : TabNext
next-is-first t c last h = record {
  right = λ l. tabs.next-right (last - c) t c (omega arith);
  stays = tabs.next_low (last - c) t c;
  within = omega (arith, tabs.next-high (last - c) t c);
  between = λ d l m. tabs.next-first (last - c) t c d l m;
  stops = λ e. let q = tabs.next_last (last - c) t c e in omega arith;
}

-- ---- decimals

pub decimals-are-right : Decimals
decimals-are-right n = record {
  value = decimal-value n;
  low = λ k h. (decimal-digits n k h).0;
  high = λ k h. (decimal-digits n k h).1;
  first = decimal-first n;
  some = some-digit n;
  long = decimal-length n;
}
