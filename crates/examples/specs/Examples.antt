-- Worked examples: lists of calls on a fresh 24-row terminal, and what must be seen of each. `examples` of proofs/Examples.antt proves them all.
-- A character up to U+00FF stands for the byte of that number: `\u{1b}` is ESC, `\u{9b}` the byte 9B.
use Rattle.std.specs.Prelude.{◌≡◌, ℕ, ◌+◌, ◌-◌, ◌*◌, Bool, true, false, ◌&&◌, ◌||◌, List, [], ◌∷◌, length, take, drop, replicate, ◌==◌}
use Prim.Native.Char.{code}
use Prim.Native.String.{String}
use Rattle.cells.specs.Cells.{packed, unpacked, spaced, selectively_erased, styling_number, styling_of, restyled}
use Rattle.cells.specs.Rows.{joined}
use Rattle.cells.specs.Sets.{bits_of, added, size_of}
use Rattle.page.specs.Edits.{applied}
use Rattle.parser.specs.Params.{with_digit, with_joined, with_next}
use Rattle.parser.specs.Parser.{transition, decode}
use Rattle.device.specs.Tabs.{with_tab, without_tab, next_among}
use Rattle.core_state.specs.Fresh.{fresh_core}
use Rattle.core_state.specs.Whole.{whole_core, whole_displays}
use Rattle.core_state.specs.StatusLine.{line_view, page_behind}
use Rattle.vt.specs.Printing.{put, printed, substituted}
use Rattle.vt.specs.Controls.{controlled, c1_controlled}
use Rattle.vt.specs.Escapes.{escaped}
use Rattle.rectangles.specs.Areas.{area_at}
use Rattle.rectangles.specs.Attributes.{change_by, reverse_by, restyling_of}
use Rattle.csi.specs.Sequences.{rendered, soft_reset, sequenced}
use Rattle.dispatch.specs.WrapDue.{clears_wrap}
use Rattle.dispatch.specs.Replies.{reply_to}
use Rattle.ground.specs.Decimals.{digits_in, decimal}
use Rattle.device.specs.ReplyBytes.{reply_bytes}
use Rattle.dispatch.specs.Decide.{executed, sends}
use Rattle.dispatch.specs.Displays.{carried, carried_out, sends_of}
use Rattle.steps.specs.Steps.{Buffers, acted, stepped, ran, sent, readable}
use Rattle.steps.specs.Whole.{whole_state}
use Rattle.steps.specs.declared.State.{State}
use Rattle.terminal.specs.Start.{fresh, blank_buffers}
use Rattle.terminal.specs.Feed.{fed}
use Rattle.terminal.specs.Ask.{asked}
use Rattle.terminal.specs.Row.{row_read}

-- ---- the lines of an example

pub data Line : Type 0 where
  -- fed with 64 bytes of reply room: answer 0, nothing sent
  send : String → Line
  -- fed with this room: the answer, the number of bytes read, and the bytes sent
  query : String → ℕ → ℕ → ℕ → String → Line
  -- asking reports these rows, and the status line unchanged
  rows : List ℕ → Line
  -- asking reports these rows, and the status line changed
  rows_and_line : List ℕ → Line
  -- from this row and column stand these codes of ASCII with no flag
  text : ℕ → ℕ → String → Line
  -- from this row and column stand these words
  words : ℕ → ℕ → List ℕ → Line
  -- row, column and wrap due
  cursor : ℕ → ℕ → Bool → Line
  margins : ℕ → ℕ → Line
  origin : Bool → Line
  -- from this column of the status line stand these codes of ASCII with no flag
  status : ℕ → String → Line
  -- from this column of it stand these words
  status_words : ℕ → List ℕ → Line
  -- its column and wrap due
  status_cursor : ℕ → Bool → Line
  -- whether there is a status line, and whether it is active
  display : Bool → Bool → Line
  -- reading this row hands back 80 cells, which begin so; or it is refused with this answer, and hands back none
  row : ℕ → String → Line
  no_row : ℕ → ℕ → Line

pub record Session : Type 0 where
  pub state : State
  pub buffers : Buffers

pub record Outcome : Type 0 where
  pub good : Bool
  pub next : Session

-- ---- what a line asks

abbrev pub bytes : String → List ℕ
bytes String.[] = []
bytes (String.◌∷◌ c s) = code c ∷ bytes s

abbrev pub same : List ℕ → List ℕ → Bool
same [] [] = true
same [] (y ∷ ys) = false
same (x ∷ xs) [] = false
same (x ∷ xs) (y ∷ ys) = x == y && same xs ys

abbrev pub same_flag : Bool → Bool → Bool
same_flag true b = b
same_flag false true = false
same_flag false false = true

-- the bits of rows that are listed by their numbers, counted from 1
abbrev pub listed : List ℕ → ℕ → Bool
listed [] k = false
listed (r ∷ rs) k = r == k + 1 || listed rs k

abbrev pub words_at : List ℕ → ℕ → ℕ → ℕ → List ℕ
words_at p r c n = take n (drop (80 * (r - 1) + (c - 1)) p)

abbrev pub feeding : Session → List ℕ → ℕ → ℕ → ℕ → List ℕ → Outcome
feeding w i room answer read reply =
    let f = fed w.state w.buffers i (replicate room 0) in
    record {
      good = (f.number == answer && f.result.read == read)
          && (f.result.replied == length reply && same (take (length reply) f.reply) reply);
      next = record { state = f.result.state; buffers = f.buffers };
    }

abbrev pub asking : Session → List ℕ → Bool → Outcome
asking w rs flag =
    let a = (asked w.state).result in
    record {
      good = (a.rows == bits_of 24 (listed rs) && a.count == length rs) && same_flag a.flag flag;
      next = record { state = a.state; buffers = w.buffers };
    }

-- the answer, how many cells are handed back, and what they begin with
abbrev pub reading : Session → ℕ → ℕ → ℕ → List ℕ → Bool
reading w r answer n ws =
    let x = row_read w.state w.buffers r in
    (x.number == answer && length x.cells == n) && same (take (length ws) x.cells) ws

abbrev pub looking : Session → Bool → Outcome
looking w b = record { good = b; next = w }

abbrev pub outcome : Session → Line → Outcome
outcome w (send s) = feeding w (bytes s) 64 0 (length (bytes s)) []
outcome w (query s room answer read reply) = feeding w (bytes s) room answer read (bytes reply)
outcome w (rows rs) = asking w rs false
outcome w (rows_and_line rs) = asking w rs true
outcome w (text r c s) = looking w (same (words_at w.buffers.page r c (length (bytes s))) (bytes s))
outcome w (words r c ws) = looking w (same (words_at w.buffers.page r c (length ws)) ws)
outcome w (cursor r c d) =
    let u = w.state.displays.core.cursor in
    looking w ((u.row == r && u.column == c) && same_flag u.wrap d)
outcome w (margins t b) =
    let m = w.state.displays.core.margins in
    looking w (m.top == t && m.bottom == b)
outcome w (origin on) = looking w (same_flag w.state.displays.core.modes.origin on)
outcome w (status c s) = looking w (same (words_at w.buffers.line 1 c (length (bytes s))) (bytes s))
outcome w (status_words c ws) = looking w (same (words_at w.buffers.line 1 c (length ws)) ws)
outcome w (status_cursor c d) =
    let l = w.state.displays.line in
    looking w (l.column == c && same_flag l.wrap d)
outcome w (display present active) =
    let l = w.state.displays.line in
    looking w (same_flag l.present present && same_flag l.active active)
outcome w (row r s) = looking w (reading w r 0 80 (bytes s))
outcome w (no_row r answer) = looking w (reading w r answer 0 [])

abbrev pub goes : Session → List Line → Bool
goes w [] = true
goes w (l ∷ ls) =
    let o = outcome w l in
    o.good && goes o.next ls

abbrev pub goes_to : Session → List Line → Session
goes_to w [] = w
goes_to w (l ∷ ls) = goes_to (outcome w l).next ls

abbrev pub begun : Session
begun = record { state = fresh 24; buffers = blank_buffers 24 }

-- an example holds
unfoldable pub holds : List Line → Bool
unfolding packed unpacked spaced selectively_erased joined bits_of added size_of applied with_digit with_joined with_next transition decode with_tab without_tab
    next_among fresh_core whole_core whole_displays line_view page_behind put printed substituted controlled c1_controlled escaped rendered soft_reset
    sequenced area_at change_by reverse_by restyling_of styling_number styling_of restyled clears_wrap reply_to digits_in decimal reply_bytes
    executed sends carried carried_out sends_of acted stepped ran sent readable whole_state fed asked row_read
holds ls = goes begun ls

-- ---- SCOPE 11.1 to 11.10: fresh, R = 24

-- 1. The right edge with autowrap off.
abbrev pub p1 : List Line
p1 = send "\u{1b}[5;77H1.10" ∷ text 5 77 "1.10" ∷ cursor 5 80 false ∷ []

-- 2. With autowrap on, and one character more.
abbrev pub p2 : List Line
p2 = send "\u{1b}[?7h\u{1b}[5;77H1.10x" ∷ text 5 77 "1.10" ∷ text 6 1 "x " ∷ cursor 6 2 false ∷ []

-- 3. Held to the page.
abbrev pub p3 : List Line
p3 = send "\u{1b}[99;99H" ∷ cursor 24 80 false ∷ []

-- 4. Margins of one row are ignored, of two rows taken.
abbrev pub p4 : List Line
p4 = send "\u{1b}[3;3r" ∷ margins 1 24 ∷ send "\u{1b}[3;4r" ∷ margins 3 4 ∷ []

-- 5. Origin, and a position report.
abbrev pub p5 : List Line
p5 = send "\u{1b}[6;10r\u{1b}[?6h\u{1b}[2;5H" ∷ cursor 7 5 false ∷ query "\u{1b}[6n" 64 0 4 "\u{1b}[2;5R" ∷ []

-- 6. A reply that does not fit, and one that does.
abbrev pub p6a : List Line
p6a = query "\u{1b}[6n" 5 3 3 "" ∷ []

abbrev pub p6b : List Line
p6b = query "\u{1b}[6n" 6 0 4 "\u{1b}[1;1R" ∷ []

-- 7. CAN drops a sequence. A with a subparameter is ignored.
abbrev pub p7a : List Line
p7a = send "\u{1b}[2\u{18}J" ∷ text 1 1 "J " ∷ []

abbrev pub p7b : List Line
p7b = send "\u{1b}[1:2AB" ∷ text 1 1 "B " ∷ []

-- 8. Empty input: 0 read. That nothing changed is `unchanged` below.
abbrev pub p8 : List Line
p8 = query "" 0 0 0 "" ∷ []

-- 9. A row that is written with what it held is not reported; one that a scroll changed is.
abbrev pub p9 : List Line
p9 = send "A" ∷ rows (1 ∷ []) ∷ send "\u{1b}[HA" ∷ rows [] ∷ send "\u{1b}[24H\n" ∷ rows (1 ∷ []) ∷ []

-- 10. A row that one step changed and another changed back.
abbrev pub p10 : List Line
p10 = send "\u{1b}[?7h\u{1b}[24HA\u{1b}[24;80H " ∷ rows (24 ∷ []) ∷ send "A" ∷ rows (23 ∷ 24 ∷ []) ∷ text 23 1 "A " ∷ text 24 1 "A " ∷ []

-- ---- examples of our own, where a misreading is likely

-- With autowrap off, column 80 is overwritten.
abbrev pub edge_off : List Line
edge_off = send "\u{1b}[5;77H1.109" ∷ text 5 77 "1.19" ∷ cursor 5 80 false ∷ rows (5 ∷ []) ∷ []

-- Filling column 80 does not wrap: wrap due waits, and CR ends it.
abbrev pub edge_on : List Line
edge_on = send "\u{1b}[?7h\u{1b}[5;77H1.10" ∷ cursor 5 80 true ∷ send "\r" ∷ cursor 5 1 false ∷ rows (5 ∷ []) ∷ []

-- A sequence cut between two calls.
abbrev pub cut_between_calls : List Line
cut_between_calls = send "\u{1b}[5;7" ∷ send "7H1.10" ∷ text 5 77 "1.10" ∷ cursor 5 80 false ∷ []

-- Origin in the extended report, 8-bit replies, and reports outside origin.
abbrev pub extended_report : List Line
extended_report = send "\u{1b}[6;10r\u{1b}[?6h\u{1b}[2;5H" ∷ query "\u{1b}[?6n" 64 0 5 "\u{1b}[?2;5;1R" ∷ query "\u{1b} G\u{9b}6n" 64 0 6 "\u{9b}2;5R"
    ∷ query "\u{1b}[?6l\u{1b}[7;80H\u{1b}[6n" 64 0 16 "\u{9b}7;80R" ∷ []

-- A byte whose reply does not fit is not applied: the string stays open, and what came before is done.
abbrev pub stops_before : List Line
stops_before = query "A\u{1b}P\u{9a}B" 6 3 3 "" ∷ send "CD\u{9c}E" ∷ text 1 1 "AE " ∷ []

-- A scroll changes just the rows that become different.
abbrev pub scrolled : List Line
scrolled = send "A\r\nA\r\nB" ∷ rows (1 ∷ 2 ∷ 3 ∷ []) ∷ send "\u{1b}[24H\n" ∷ rows (2 ∷ 3 ∷ []) ∷ text 1 1 "A " ∷ text 2 1 "B " ∷ text 3 1 "  " ∷ []

-- Selective erase skips protected cells and keeps flags; K does not.
abbrev pub selective : List Line
selective = send "\u{1b}[1\"qA\u{1b}[2\"q\u{1b}[1mB\u{1b}[?1K" ∷ words 1 1 (0x2041 ∷ 0x0220 ∷ 0x0020 ∷ []) ∷ rows (1 ∷ []) ∷ send "\u{1b}[?2J" ∷ rows []
    ∷ send "\u{1b}[2K" ∷ text 1 1 "   " ∷ rows (1 ∷ []) ∷ []

-- ESC 8 holds the row to the margins if origin is then on, and restores wrap due only with autowrap.
abbrev pub restored : List Line
restored = send "\u{1b}[?6h\u{1b}[20;5H\u{1b}7\u{1b}[5;10r\u{1b}8" ∷ cursor 10 5 false ∷ send "\u{1b}[?7h\u{1b}[?6l\u{1b}[2;80Hx\u{1b}7\u{1b}[H\u{1b}8"
    ∷ cursor 2 80 true ∷ send "\u{1b}[?7l\u{1b}8" ∷ cursor 2 80 false ∷ []

-- ESC 7 saves protection, on or off: after ESC 8, selective erase leaves what is written or takes it. A fresh saved cursor has none.
abbrev pub saved_protection : List Line
saved_protection = send "\u{1b}[1\"q\u{1b}7\u{1b}[0\"q\u{1b}8A\u{1b}[?2J" ∷ words 1 1 (0x2041 ∷ 0x0020 ∷ [])
    ∷ send "\u{1b}[!p\u{1b}[1\"q\u{1b}8B" ∷ words 1 1 (0x0042 ∷ [])
    ∷ send "\u{1b}[H\u{1b}7\u{1b}[1\"q\u{1b}8C\u{1b}[?2J" ∷ words 1 1 (0x0020 ∷ 0x0020 ∷ []) ∷ []

-- ESC 7 saves a pending shift and leaves it pending; ESC 8 brings it back, or its absence.
abbrev pub saved_shift : List Line
saved_shift = send "\u{8e}\u{1b}7a\u{1b}8bc" ∷ words 1 1 (0x0162 ∷ 0x0063 ∷ []) ∷ send "\u{1b}8\u{1b}7d\r" ∷ words 1 1 (0x0164 ∷ 0x0063 ∷ [])
    ∷ send "\u{1b}7\u{8f}\u{1b}8e" ∷ words 1 1 (0x0065 ∷ 0x0063 ∷ [])
    ∷ send "\u{8e}\u{1b}7\u{1b}[!p\u{8f}\u{1b}8f" ∷ words 1 1 (0x0066 ∷ 0x0063 ∷ []) ∷ []

-- A fill, and a copy to the right over itself; another is cut off at the page's edge. Cursor and wrap due stay.
abbrev pub rectangle_painted : List Line
rectangle_painted = send "\u{1b}[?7hABC\u{1b}[3;80Hw\u{1b}[35;1;3;2;4$x" ∷ text 1 1 "AB## " ∷ text 2 1 "  ## " ∷ cursor 3 80 true ∷ rows (1 ∷ 2 ∷ 3 ∷ [])
    ∷ send "\u{1b}[1;1;1;3;1;1;2;1$v" ∷ text 1 1 "AAB# " ∷ send "\u{1b}[1;2;2;4;;24;79$v" ∷ text 24 78 " AB" ∷ rows (1 ∷ 24 ∷ [])
    ∷ send "\u{1b}[1;2;1;2$z\u{1b}[;;;;2$v\u{1b}[127;$xX" ∷ text 1 1 "A B# " ∷ text 4 1 "X " ∷ rows (1 ∷ 4 ∷ []) ∷ []

-- An edge of 0 is the page's own with origin on too, others count from T and are held to the page; then a top below the bottom is ignored.
abbrev pub rectangle_edges : List Line
rectangle_edges = send "\u{1b}[5;10r\u{1b}[?6h\u{1b}[42;;80;1$x" ∷ text 1 80 "*" ∷ text 5 80 "*" ∷ text 6 80 " " ∷ rows (1 ∷ 2 ∷ 3 ∷ 4 ∷ 5 ∷ [])
    ∷ send "\u{1b}[43;99;79;30;99$x" ∷ text 24 78 " ++" ∷ rows (24 ∷ []) ∷ send "\u{1b}[3;1;2;80$z\u{1b}[1;80;24;79$z" ∷ rows [] ∷ []

-- Attributes are taken in order, in a stream or in a rectangle; unlisted ones alone are ignored.
abbrev pub rectangle_styled : List Line
rectangle_styled = send "AB\r\nCD\u{1b}[1;2;2;2;1;4;22$r" ∷ words 1 1 (0x0041 ∷ 0x0442 ∷ 0x0420 ∷ []) ∷ words 2 1 (0x0443 ∷ 0x0444 ∷ 0x0020 ∷ [])
    ∷ rows (1 ∷ 2 ∷ []) ∷ send "\u{1b}[2*x\u{1b}[!p\u{1b}[1;1;2;1;0;1$t" ∷ words 1 1 (0x1C41 ∷ 0x0442 ∷ []) ∷ words 2 1 (0x1843 ∷ 0x0444 ∷ [])
    ∷ rows (1 ∷ 2 ∷ []) ∷ send "\u{1b}[;;;;22;99$t" ∷ rows [] ∷ send "\u{1b}[1;1;1;1$r\u{1b}[2;1;2;1${" ∷ words 1 1 (0x0041 ∷ [])
    ∷ words 2 1 (0x1820 ∷ []) ∷ []

-- A mark not in first place, three intermediates, a digit after an intermediate: ignored through the final.
abbrev pub spoilt : List Line
spoilt = send "\u{1b}[1?JA\u{1b}[!!!pB\u{1b}[!0pC\u{1b}(((0D" ∷ text 1 1 "ABCD " ∷ []

-- The sixteenth parameter is kept, the seventeenth dropped; a value stays 9,999.
abbrev pub many_parameters : List Line
many_parameters = send "\u{1b}[0;;;;;;;;;;;;;;;1mA\u{1b}[0;;;;;;;;;;;;;;;;1mB\u{1b}[99999DC" ∷ words 1 1 (0x0043 ∷ 0x0042 ∷ []) ∷ []

-- CSI m skips a parameter that has subparameters, and obeys the others; another function with one in it is ignored. One that is dropped
-- marks its parameter, if that is kept.
abbrev pub subparameters : List Line
subparameters =
    send "\u{1b}[4:3;7mA\u{1b}[m\u{1b}[1;5:1HB\u{1b}[:1mC\u{1b}[7;4:mD\u{1b}[0:1mE\u{1b}[?0:mF\u{1b}[!:pG"
    ∷ words 1 1 (0x1041 ∷ 0x0042 ∷ 0x0043 ∷ 0x1044 ∷ 0x1045 ∷ 0x1046 ∷ 0x1047 ∷ [])
    ∷ send "\u{1b}[3;4;;;;;;;;;;;;;;;5:6H" ∷ cursor 3 4 false ∷ send "\u{1b}[5;6;;;;;;;;;;;;;;7:H" ∷ cursor 3 4 false
    ∷ query "\u{1b}[6:1n" 64 0 6 "" ∷ []

-- ESC c: a row that was noted stays noted, though ESC c does not change it; tabs and reply width are fresh.
abbrev pub reset_rules : List Line
reset_rules = send "\u{1b}[5;5Hx\u{8} \u{1b}[6;6Hy" ∷ send "\u{1b}[3g\u{1b} G\u{1b}c" ∷ rows (5 ∷ 6 ∷ []) ∷ send "\u{1b}c" ∷ rows [] ∷ send "\t"
    ∷ cursor 1 9 false ∷ query "\u{1b}[5n" 64 0 4 "\u{1b}[0n" ∷ []

-- The replies of one call share its room; the byte that does not fit is read by the next call.
abbrev pub room_left : List Line
room_left = query "\u{1b}[5n\u{1b}[6nA" 9 3 7 "\u{1b}[0n" ∷ query "nB" 6 0 2 "\u{1b}[1;1R" ∷ text 1 1 "B " ∷ []

-- ---- the status line: CSI 1 $ ~ makes one, CSI 1 $ } makes it active

-- Bytes go to the line, and the page stays as it is. A row that is read is the active display's.
abbrev pub line_written : List Line
line_written = send "Signal" ∷ row 1 "Signal " ∷ row 24 " " ∷ no_row 25 4 ∷ rows (1 ∷ [])
    ∷ send "\u{1b}[1$~\u{1b}[1$}-61 dBm" ∷ status 1 "-61 dBm " ∷ status_cursor 8 false ∷ text 1 1 "Signal " ∷ cursor 1 7 false
    ∷ row 1 "-61 dBm " ∷ no_row 0 4 ∷ no_row 2 4 ∷ rows_and_line [] ∷ rows []
    ∷ send "\r-61 dBm" ∷ rows [] ∷ send "\u{1b}[0$} 7" ∷ text 1 1 "Signal 7 " ∷ row 1 "Signal 7 " ∷ rows (1 ∷ []) ∷ []

-- Wrap due leads to column 1 of the line.
abbrev pub line_wraps : List Line
line_wraps = send "\u{1b}[2$~\u{1b}[1$}\u{1b}[?7h\u{1b}[1;80HA" ∷ status_cursor 80 true ∷ rows_and_line [] ∷ send "B" ∷ status_cursor 2 false
    ∷ status 1 "B " ∷ status 79 " A" ∷ cursor 1 1 false ∷ rows_and_line [] ∷ []

-- The line never scrolls, and the page behind it does not either: IND, LF, VT, FF, RI, NEL, LF with newline mode.
abbrev pub line_stays : List Line
line_stays = send "\u{1b}[24;5HP" ∷ rows (24 ∷ []) ∷ send "\u{1b}[1$~\u{1b}[1$}\u{1b}[?7hAB\u{1b}D\n\u{b}\u{c}\u{1b}M" ∷ status 1 "AB "
    ∷ status_cursor 3 false ∷ rows_and_line [] ∷ send "\u{1b}E" ∷ status_cursor 1 false ∷ send "\u{1b}[20h\u{1b}[5;7H\n" ∷ status_cursor 1 false
    ∷ send "\u{1b}[;80H " ∷ status_cursor 80 true ∷ send "\u{1b}D" ∷ status_cursor 80 false ∷ rows [] ∷ text 24 5 "P " ∷ cursor 24 6 false ∷ []

-- H takes the column. J and K erase on the line. A and B only clear wrap due.
abbrev pub line_erased : List Line
line_erased = send "\u{1b}[1$~\u{1b}[1$}\u{1b}[?7hABCDE\u{1b}[9;2H" ∷ status_cursor 2 false ∷ send "\u{1b}[1J" ∷ status 1 "  CDE " ∷ send "\u{1b}[2C\u{1b}[K"
    ∷ status 1 "  C   " ∷ send "\u{1b}[;80HX\u{1b}[A" ∷ status_cursor 80 false ∷ send "Y\u{1b}[B" ∷ status_cursor 80 false ∷ status 79 " Y"
    ∷ send "\u{1b}[2J" ∷ status 3 "  " ∷ status 79 "  " ∷ cursor 1 1 false ∷ rows_and_line [] ∷ []

-- L and M are ignored on the line, so wrap due stays.
abbrev pub line_ignores_lines : List Line
line_ignores_lines = send "\u{1b}[1$~\u{1b}[1$}\u{1b}[?7h\u{1b}[;80HA\u{1b}[L" ∷ status_cursor 80 true ∷ send "\u{1b}[M" ∷ status_cursor 80 true
    ∷ status 79 " A" ∷ []

-- ?6 is ignored on the line, set or reset, so wrap due stays; in ?6;7h the 7 acts.
abbrev pub line_origin : List Line
line_origin = send "\u{1b}[3;5r\u{1b}[1$~\u{1b}[1$}\u{1b}[?6;7h\u{1b}[;80HA" ∷ status_cursor 80 true ∷ send "\u{1b}[?6h" ∷ status_cursor 80 true ∷ origin false
    ∷ cursor 1 1 false ∷ send "\u{1b}[0$}\u{1b}[?6h\u{1b}[1$}\u{1b}[?6l" ∷ status_cursor 80 true ∷ origin true ∷ cursor 3 1 false ∷ []

-- r is ignored on the line.
abbrev pub line_margins : List Line
line_margins = send "\u{1b}[1$~\u{1b}[1$}\u{1b}[?7h\u{1b}[;80HA\u{1b}[2;4r" ∷ margins 1 24 ∷ status_cursor 80 true ∷ cursor 1 1 false ∷ []

-- ?7l clears both wrap dues, from the line and from the page. Both sequences of the status line keep both.
abbrev pub both_wraps_cleared : List Line
both_wraps_cleared = send "\u{1b}[?7h\u{1b}[2;80HX\u{1b}[1$~\u{1b}[1$}\u{1b}[;80HA" ∷ cursor 2 80 true ∷ status_cursor 80 true
    ∷ send "\u{1b}[?7l" ∷ cursor 2 80 false ∷ status_cursor 80 false
    ∷ send "\u{1b}[?7hB\u{1b}[0$}Y\u{1b}[0$~" ∷ cursor 2 80 true ∷ status_cursor 80 true
    ∷ send "\u{1b}[?7l" ∷ cursor 2 80 false ∷ status_cursor 80 false ∷ []

-- The line has a saved cursor of its own, and ESC 8 on it leaves origin as it is.
abbrev pub line_restored : List Line
line_restored = send "\u{1b}[7;9H\u{1b}7\u{1b}[3;5r\u{1b}[?6h\u{1b}[1$~\u{1b}[1$}\u{1b}[1;34H\u{1b}[1m\u{1b}7\u{1b}[H\u{1b}[m\u{1b}8" ∷ status_cursor 34 false
    ∷ origin true ∷ cursor 3 1 false ∷ send "\u{1b}[0$}\u{1b}8" ∷ cursor 7 9 false ∷ origin false ∷ status_cursor 34 false ∷ []

-- ESC # 8 fills only the line, and leaves the margins.
abbrev pub line_aligned : List Line
line_aligned = send "\u{1b}[3;5r\u{1b}[1$~\u{1b}[1$}\u{1b}[9C\u{1b}#8" ∷ status_cursor 1 false ∷ status 1 "EEEEEEEEEEEE" ∷ status 77 "EEEE" ∷ margins 3 5
    ∷ text 1 1 "  " ∷ cursor 1 1 false ∷ rows_and_line [] ∷ []

-- A position report is row 1 and the line's column, whatever origin is.
abbrev pub line_reported : List Line
line_reported = send "\u{1b}[3;5r\u{1b}[?6h\u{1b}[2;7H\u{1b}[1$~\u{1b}[1$}\u{1b}[9;12H" ∷ query "\u{1b}[6n" 64 0 4 "\u{1b}[1;12R"
    ∷ query "\u{1b}[?6n" 64 0 5 "\u{1b}[?1;12;1R" ∷ query "\u{1b}[0$}\u{1b}[6n" 64 0 9 "\u{1b}[2;7R" ∷ []

-- Type 0 goes back to the page. With a type again the line is as it was left; 1 and 2 are alike, and others are ignored.
abbrev pub line_hidden : List Line
line_hidden = send "\u{1b}[1$~\u{1b}[1$}AB\u{1b}[2$~\u{1b}[3$~\u{1b}[2$}" ∷ display true true ∷ send "\u{1b}[$~C" ∷ display false false ∷ text 1 1 "C "
    ∷ status 1 "AB " ∷ status_cursor 3 false ∷ send "\u{1b}[2$~D" ∷ display true false ∷ text 1 1 "CD " ∷ send "\u{1b}[1$}E" ∷ status 1 "ABE "
    ∷ send "\u{1b}[$}F" ∷ text 1 1 "CDF " ∷ []

-- With type 0 the line cannot be made active.
abbrev pub no_line : List Line
no_line = send "\u{1b}[1$}A" ∷ display false false ∷ text 1 1 "A " ∷ status 1 "  " ∷ rows (1 ∷ []) ∷ []

-- Soft reset on the line goes back to the page, renews both saved cursors and clears both wrap dues; type, places and cells stay.
abbrev pub line_soft_reset : List Line
line_soft_reset = send "\u{1b}[?7h\u{1b}[7;9H\u{1b}7\u{1b}[8;80HX\u{1b}[1$~\u{1b}[1$}\u{1b}[1;34H\u{1b}7\u{1b}[1;80HA" ∷ cursor 8 80 true
    ∷ status_cursor 80 true ∷ send "\u{1b}[!p" ∷ display true false ∷ cursor 8 80 false ∷ status_cursor 80 false ∷ status 79 " A" ∷ text 8 79 " X"
    ∷ send "\u{1b}8" ∷ cursor 1 1 false ∷ send "\u{1b}[1$}\u{1b}8" ∷ status_cursor 1 false ∷ []

-- ESC c goes back to the page, blanks page and line, and leaves type 0. The line's flag is set if that changes a cell of it, and kept
-- if it was set.
abbrev pub line_reset : List Line
line_reset = send "A\u{1b}[1$~\u{1b}[1$}B" ∷ rows_and_line (1 ∷ []) ∷ send "\u{1b}c" ∷ display false false ∷ text 1 1 "  " ∷ status 1 "  "
    ∷ status_cursor 1 false ∷ rows_and_line (1 ∷ []) ∷ send "\u{1b}c" ∷ rows []
    ∷ send "\u{1b}[1$~\u{1b}[1$}x\u{8} \u{1b}c" ∷ status 1 "  " ∷ rows_and_line [] ∷ []

-- @, P and insert mode act on the line, wherever the page's cursor and margins are.
abbrev pub line_inserts : List Line
line_inserts = send "\u{1b}[3;5r\u{1b}[1$~\u{1b}[1$}AB\r\u{1b}[2@" ∷ status 1 "  AB " ∷ send "\u{1b}[4hC" ∷ status 1 "C  AB " ∷ send "\u{1b}[P"
    ∷ status 1 "C AB " ∷ margins 3 5 ∷ cursor 1 1 false ∷ text 1 1 "  " ∷ rows_and_line [] ∷ []

-- On the line every row edge of a rectangle is 1, and a copy stays in it.
abbrev pub line_rectangles : List Line
line_rectangles = send "\u{1b}[3;5r\u{1b}[?6h\u{1b}[1$~\u{1b}[1$}\u{1b}[35;3;2;9;4$x" ∷ status 1 " ###  " ∷ send "\u{1b}[1;2;1;4;1;7;6$v"
    ∷ status 1 " ### ### " ∷ text 3 1 "    " ∷ text 7 6 "   " ∷ rows_and_line [] ∷ []

-- ---- what page and line share

-- Rendition, protection and sets, from the line to the page and back.
abbrev pub shared_writing : List Line
shared_writing = send "\u{1b}[1$~\u{1b}[1$}\u{1b}[1m\u{1b}[1\"q\u{1b}(0q" ∷ status_words 1 (0x22F1 ∷ 0x0020 ∷ []) ∷ send "\u{1b}[0$}q"
    ∷ words 1 1 (0x22F1 ∷ 0x0020 ∷ []) ∷ send "\u{1b}[m\u{1b}[0\"q\u{1b}(B\u{1b}[1$}q" ∷ status_words 1 (0x22F1 ∷ 0x0071 ∷ 0x0020 ∷ []) ∷ []

-- A pending shift, which the first character uses up on either.
abbrev pub shared_shift : List Line
shared_shift = send "\u{1b}[1$~\u{1b}[1$}\u{8e}\u{1b}[0$}ab" ∷ words 1 1 (0x0161 ∷ 0x0062 ∷ 0x0020 ∷ []) ∷ send "\u{8f}\u{1b}[1$}c\u{1b}[0$}d"
    ∷ status_words 1 (0x0163 ∷ 0x0020 ∷ []) ∷ words 1 1 (0x0161 ∷ 0x0062 ∷ 0x0064 ∷ 0x0020 ∷ []) ∷ []

-- Tabs: HTS and g on the line, HT on the page, and the other way.
abbrev pub shared_tabs : List Line
shared_tabs = send "\u{1b}[1$~\u{1b}[1$}\u{1b}[;5H\u{1b}H\u{1b}[0$}\t" ∷ cursor 1 5 false ∷ send "\u{1b}[1$}\u{1b}[g\u{1b}[0$}\r\t" ∷ cursor 1 9 false
    ∷ send "\u{1b}[;3H\u{1b}H\u{1b}[1$}\r\t" ∷ status_cursor 3 false ∷ send "\u{1b}[0$}\u{1b}[3g\u{1b}[1$}\t" ∷ status_cursor 80 false ∷ []

-- Modes that are set on the line: insert, newline and 8-bit replies; and on the page.
abbrev pub shared_modes : List Line
shared_modes = send "AB\r\u{1b}[1$~\u{1b}[1$}\u{1b}[4;20h\u{1b} G\u{1b}[0$}C" ∷ text 1 1 "CAB " ∷ send "\n" ∷ cursor 2 1 false
    ∷ query "\u{1b}[5n" 64 0 4 "\u{9b}0n" ∷ send "\u{1b}[4;20l\u{1b} F\u{1b}[1$}DE\rF\n" ∷ status 1 "FE " ∷ status_cursor 2 false
    ∷ query "\u{1b}[5n" 64 0 4 "\u{1b}[0n" ∷ []

-- ESC 8 on the line brings back how its ESC 7 found characters written; the page's is still the fresh one.
abbrev pub line_saves : List Line
line_saves = send "\u{1b}[1$~\u{1b}[1$}\u{1b}[;34H\u{1b}[1m\u{1b}[1\"q\u{1b}(0\u{8f}\u{1b}7\u{1b}[H\u{1b}[m\u{1b}[0\"q\u{1b}(Bxy\u{1b}8AB"
    ∷ status_words 1 (0x0178 ∷ 0x0079 ∷ []) ∷ status_words 34 (0x2341 ∷ 0x22C2 ∷ 0x0020 ∷ []) ∷ send "\u{1b}[0$}\u{1b}8C"
    ∷ words 1 1 (0x0043 ∷ 0x0020 ∷ []) ∷ []

-- A wrap due that was saved on the line comes back only with autowrap.
abbrev pub line_saves_wrap : List Line
line_saves_wrap = send "\u{1b}[1$~\u{1b}[1$}\u{1b}[?7h\u{1b}[;80Hx\u{1b}7\u{1b}[H\u{1b}8" ∷ status_cursor 80 true ∷ send "\u{1b}[?7l\u{1b}8"
    ∷ status_cursor 80 false ∷ send "\u{1b}[?7h\u{1b}8y" ∷ status_cursor 2 false ∷ status 1 "y " ∷ status 79 " x" ∷ []

-- ---- the table

abbrev pub table : List (List Line)
table =
    p1 ∷ p2 ∷ p3 ∷ p4 ∷ p5 ∷ p6a ∷ p6b ∷ p7a ∷ p7b ∷ p8 ∷ p9 ∷ p10
    ∷ edge_off ∷ edge_on ∷ cut_between_calls ∷ extended_report ∷ stops_before ∷ scrolled ∷ selective ∷ restored ∷ saved_protection ∷ saved_shift
    ∷ rectangle_painted ∷ rectangle_edges ∷ rectangle_styled ∷ spoilt ∷ many_parameters ∷ subparameters ∷ reset_rules ∷ room_left
    ∷ line_written ∷ line_wraps ∷ line_stays ∷ line_erased ∷ line_ignores_lines ∷ line_origin ∷ line_margins ∷ both_wraps_cleared ∷ line_restored ∷ line_aligned
    ∷ line_reported ∷ line_hidden ∷ no_line ∷ line_soft_reset ∷ line_reset ∷ line_inserts ∷ line_rectangles
    ∷ shared_writing ∷ shared_shift ∷ shared_tabs ∷ shared_modes ∷ line_saves ∷ line_saves_wrap
    ∷ []

abbrev pub all_hold : List (List Line) → Bool
all_hold [] = true
all_hold (e ∷ es) = holds e && all_hold es

-- every example holds, and example 8 leaves state, page and line as they were
pub record Examples : Type 0 where
  pub lines : all_hold table ≡ true
  pub unchanged : goes_to begun p8 ≡ begun
