-- `NoLeak` is false of the programs that leak: two consoles that are alike, and an empty input, show it by computing.
use Rattle.std.proofs.Common.{◌≡◌, ℕ, ◌*◌, Bool, true, false, [], ◌∷◌, get_or, replicate, sym, refl, ap, arith}
use mathlib.Core.Bool.{false≢true}
use Rattle.cells.specs.Cells.{blank, unpacked}
use Rattle.core_state.specs.Fresh.{fresh_core}
use Rattle.core_state.specs.StatusLine.{fresh_line}
use Rattle.core_state.specs.Whole.{whole_core, whole_displays}
use Rattle.steps.specs.Steps.{buffers, ran, sent, readable}
use Rattle.steps.specs.Whole.{whole_state}
use Rattle.terminal.specs.Feed.{Feed, fed}
use Rattle.demands.specs.Leak.{Console, feeds, Alike, NoLeak, SameFed}
use Rattle.demands.specs.LeakingPrograms.{answers_cell, answers_row, answers_line, answers_flag, sends_more, stops_there, counts_word, keeps_protection}
use Rattle.demands.specs.LeakingPrograms.{keeps_column, breaks_state, cuts_page, cuts_line, RuledOut}

-- fresh, of 24 rows, but for a word in every cell of page and line, the changed rows and the flag
abbrev over : ℕ → ℕ → Bool → Console
over word changed flag = record {
  state = record { displays = record { core = fresh_core 24; line = fresh_line }; tracked = record { changed = changed; flag = flag } };
  buffers = buffers (replicate (80 * 24) word) (replicate 80 word);
  reply = 0 ∷ [];
}

-- a protected A
abbrev protected_a : ℕ
protected_a = 0x2041

cells-alike : Alike (over blank 0 false) (over protected_a 0 false)
unfolding fresh_core whole_core whole_displays whole_state
cells-alike = record { states = refl; whole = refl; size = λ _. refl; room = refl }

tracked-alike : Alike (over blank 0 false) (over blank 1 true)
unfolding fresh_core whole_core whole_displays whole_state
tracked-alike = record { states = refl; whole = refl; size = λ _. refl; room = refl }

-- what a program does over blank cells and over others, and with nothing changed and with row 1 and the line changed
module _ (then : Feed → Feed) (h : NoLeak (λ a i. then (feeds a i))) where
  over-cells : SameFed (then (feeds (over blank 0 false) [])) (then (feeds (over protected_a 0 false) []))
  over-cells = h (over blank 0 false) (over protected_a 0 false) [] cells-alike

  over-tracked : SameFed (then (feeds (over blank 0 false) [])) (then (feeds (over blank 1 true) []))
  over-tracked = h (over blank 0 false) (over blank 1 true) [] tracked-alike

-- the byte sent
abbrev byte_of : Feed → ℕ
byte_of f = get_or f.reply 0 0

pub leaks-are-ruled-out : RuledOut
unfolding fresh_core whole_core whole_displays whole_state readable sent ran fed unpacked
leaks-are-ruled-out = record {
  answers-cell = λ h. let e : ◌≡◌ {A = ℕ} 0x20 0x41 = ap byte_of (over-cells answers_cell h).shown in omega arith;
  answers-row = λ h. let e : ◌≡◌ {A = ℕ} 0 1 = ap byte_of (over-tracked answers_row h).shown in omega arith;
  answers-line = λ h. let e : ◌≡◌ {A = ℕ} 0x20 0x41 = ap byte_of (over-cells answers_line h).shown in omega arith;
  answers-flag = λ h. let e : ◌≡◌ {A = ℕ} 0 1 = ap byte_of (over-tracked answers_flag h).shown in omega arith;
  sends_more = λ h. let e : ◌≡◌ {A = ℕ} 0 1 = ap (λ (f : Feed). f.result.replied) (over-cells sends_more h).shown in omega arith;
  stops-there = λ h. let e : ◌≡◌ {A = ℕ} 0 3 = ap (λ (f : Feed). f.number) (over-cells stops_there h).shown in omega arith;
  counts-word = λ h. let e : ◌≡◌ {A = ℕ} blank protected_a = ap (λ (f : Feed). f.result.read) (over-cells counts_word h).shown in omega arith;
  keeps-protection = λ h. false≢true (ap (λ (f : Feed). f.result.state.displays.core.protected) (over-cells keeps_protection h).shown);
  keeps-column = λ h.
      let e : ◌≡◌ {A = ℕ} 33 18 = ap (λ (f : Feed). f.result.state.displays.line.column) (over-cells keeps_column h).shown in omega arith;
  breaks-state = λ h. false≢true (sym ((over-cells breaks_state h).alike [] [] refl).whole);
  cuts-page = λ h. false≢true (sym (((over-cells cuts_page h).alike [] [] refl).size refl));
  cuts-line = λ h. false≢true (sym (((over-cells cuts_line h).alike [] [] refl).size refl));
}
