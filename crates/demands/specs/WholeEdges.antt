-- The edges of a whole state (SCOPE 1.9 to 1.18, 1.28 to 1.30): for each clause states just inside and just outside. A state is a fresh one, of so
-- many rows, with the fields changed that are named.
use Rattle.std.specs.Prelude.{◌≡◌, ℕ, ◌-◌, ◌^◌, Bool, true, false, not, ◌&&◌, List, [], ◌∷◌, ◌++◌, slice_set}
use Rattle.cells.specs.declared.Rendition.{Rendition}
use Rattle.cells.specs.declared.CharSet.TheVariants.{SpecialGraphics, Latin1}
use Rattle.device.specs.declared.charsets.Register.TheVariants.{G0, G3}
use Rattle.device.specs.declared.charsets.SingleShift.TheVariants.{Ss2, Ss3}
use Rattle.device.specs.declared.charsets.Sets.{Sets}
use Rattle.parser.specs.declared.params.Params.{Params}
use Rattle.parser.specs.declared.phases.Phase.{Phase}
use Rattle.parser.specs.declared.phases.Phase.TheVariants.{Ground, Escape, EscapeOne, EscapeTwo, EscapeIgnore, CsiEntry, CsiParam, CsiOne, CsiTwo}
use Rattle.parser.specs.declared.phases.Phase.TheVariants.{CsiIgnore, StringText}
use Rattle.parser.specs.declared.parser.Parser.{Parser}
use Rattle.core_state.specs.declared.Core.{Core}
use Rattle.core_state.specs.declared.Modes.{Modes}
use Rattle.core_state.specs.declared.Saved.{Saved}
use Rattle.core_state.specs.declared.LineSaved.{LineSaved}
use Rattle.core_state.specs.declared.StatusLine.{StatusLine}
use Rattle.steps.specs.declared.State.{State}
use Rattle.device.specs.Tabs.{no_tabs}
use Rattle.core_state.specs.Fresh.{fresh_core}
use Rattle.core_state.specs.Effects.{core_from, with_cursor, with_margins, with_modes, with_saved, saved_at, with_parser}
use Rattle.core_state.specs.Modes.{with_origin, with_autowrap}
use Rattle.core_state.specs.Whole.{whole_core, whole_displays}
use Rattle.steps.specs.Whole.{whole_state}
use Rattle.terminal.specs.Start.{fresh}

-- ---- one field changed

abbrev on_core : (Core → Core) → State → State
on_core f s = record { displays = record { core = f s.displays.core; line = s.displays.line }; tracked = s.tracked }

abbrev pub row : ℕ → State → State
row r s = on_core (λ c. with_cursor c (record { row = r; column = c.cursor.column; wrap = c.cursor.wrap })) s

abbrev pub column : ℕ → State → State
column k s = on_core (λ c. with_cursor c (record { row = c.cursor.row; column = k; wrap = c.cursor.wrap })) s

abbrev pub wrap_due : State → State
wrap_due s = on_core (λ c. with_cursor c (record { row = c.cursor.row; column = c.cursor.column; wrap = true })) s

-- T and B
abbrev pub margins : ℕ → ℕ → State → State
margins t b s = on_core (λ c. with_margins c (record { top = t; bottom = b })) s

-- origin on
abbrev pub origin : State → State
origin s = on_core (λ c. with_modes c (with_origin c.modes true)) s

-- autowrap on
abbrev pub autowrap : State → State
autowrap s = on_core (λ c. with_modes c (with_autowrap c.modes true)) s

abbrev pub saved_cursor : ℕ → ℕ → Bool → State → State
saved_cursor r k w s = on_core (λ c. with_saved c (saved_at c.saved (record { row = r; column = k; wrap = w }))) s

abbrev pub saved_row : ℕ → State → State
saved_row r s = saved_cursor r s.displays.core.saved.cursor.column s.displays.core.saved.cursor.wrap s

abbrev pub saved_column : ℕ → State → State
saved_column k s = saved_cursor s.displays.core.saved.cursor.row k s.displays.core.saved.cursor.wrap s

abbrev pub saved_wrap_due : State → State
saved_wrap_due s = saved_cursor s.displays.core.saved.cursor.row s.displays.core.saved.cursor.column true s

-- saved with origin on
abbrev pub saved_origin : State → State
saved_origin s =
    let v = s.displays.core.saved in
    let saved : Saved = record {
      cursor = v.cursor;
      rendition = v.rendition;
      origin = true;
      sets = v.sets;
      protected = v.protected;
      shift = v.shift;
    } in
    on_core (λ c. with_saved c saved) s

abbrev other_parser : State → Parser → State
other_parser s q = on_core (λ c. with_parser c q) s

abbrev pub phase : Phase → State → State
phase p s =
    let q = s.displays.core.parser in
    other_parser s (record { phase = p; mark = q.mark; first = q.first; second = q.second; params = q.params })

abbrev pub mark : ℕ → State → State
mark x s =
    let q = s.displays.core.parser in
    other_parser s (record { phase = q.phase; mark = x; first = q.first; second = q.second; params = q.params })

-- the first intermediate, and the second
abbrev pub first : ℕ → State → State
first x s =
    let q = s.displays.core.parser in
    other_parser s (record { phase = q.phase; mark = q.mark; first = x; second = q.second; params = q.params })

abbrev pub second : ℕ → State → State
second x s =
    let q = s.displays.core.parser in
    other_parser s (record { phase = q.phase; mark = q.mark; first = q.first; second = x; params = q.params })

abbrev with_params : State → Params → State
with_params s a =
    let q = s.displays.core.parser in
    other_parser s (record { phase = q.phase; mark = q.mark; first = q.first; second = q.second; params = a })

-- so many separators: one parameter more is kept, 16 at most
abbrev pub separators : ℕ → State → State
separators n s = with_params s (record { separators = n; values = s.displays.core.parser.params.values })

-- value i of the sixteen, from 1
abbrev pub value : ℕ → ℕ → State → State
value i x s = let a = s.displays.core.parser.params in with_params s (record { separators = a.separators; values = slice_set a.values (i - 1) x })

-- row 1 is the lowest bit
abbrev pub changed_rows : ℕ → State → State
changed_rows n s = record { displays = s.displays; tracked = record { changed = n; flag = s.tracked.flag } }

-- the line's flag set
abbrev pub flagged : State → State
flagged s = record { displays = s.displays; tracked = record { changed = s.tracked.changed; flag = true } }

-- ---- the same of the line

abbrev on_line : (StatusLine → StatusLine) → State → State
on_line f s = record { displays = record { core = s.displays.core; line = f s.displays.line }; tracked = s.tracked }

-- there is one; bytes act on it
abbrev pub typed : State → State
typed s = on_line (λ l. record { present = true; active = l.active; column = l.column; wrap = l.wrap; saved = l.saved }) s

abbrev pub line_active : State → State
line_active s = on_line (λ l. record { present = l.present; active = true; column = l.column; wrap = l.wrap; saved = l.saved }) s

abbrev pub line_column : ℕ → State → State
line_column k s = on_line (λ l. record { present = l.present; active = l.active; column = k; wrap = l.wrap; saved = l.saved }) s

abbrev pub line_wrap_due : State → State
line_wrap_due s = on_line (λ l. record { present = l.present; active = l.active; column = l.column; wrap = true; saved = l.saved }) s

abbrev with_line_saved : LineSaved → State → State
with_line_saved v s = on_line (λ l. record { present = l.present; active = l.active; column = l.column; wrap = l.wrap; saved = v }) s

abbrev line_saved_at : ℕ → Bool → State → State
line_saved_at k w s =
    let v = s.displays.line.saved in
    with_line_saved (record { column = k; wrap = w; rendition = v.rendition; sets = v.sets; protected = v.protected; shift = v.shift }) s

abbrev pub line_saved_column : ℕ → State → State
line_saved_column k s = line_saved_at k s.displays.line.saved.wrap s

abbrev pub line_saved_wrap_due : State → State
line_saved_wrap_due s = line_saved_at s.displays.line.saved.column true s

-- ---- all else

-- all that the clauses do not name, as it is not when fresh
abbrev pub all_else : State → State
all_else s =
    let c = s.displays.core in
    let drawn : Rendition = record { bold = true; underline = true; blink = true; reverse = true } in
    let sets : Sets = record { g0 = Latin1; g1 = SpecialGraphics; g2 = Latin1; g3 = Latin1; gl = G3; gr = G0 } in
    let modes : Modes = record {
      insert = true;
      newline = true;
      origin = c.modes.origin;
      autowrap = c.modes.autowrap;
      shown = false;
      eightbit = true;
      rectangle = true;
    } in
    let saved : Saved = record { cursor = c.saved.cursor; rendition = drawn; origin = true; sets = sets; protected = true; shift = Ss2 } in
    let v = s.displays.line.saved in
    flagged (with_line_saved (record { column = v.column; wrap = v.wrap; rendition = drawn; sets = sets; protected = true; shift = Ss2 })
    (on_core (λ c. core_from c.rows c.cursor c.margins no_tabs modes drawn true sets Ss3 saved c.parser) s))

-- ---- the edges, clause by clause

pub data Edge : Type 0 where
  whole : State → Edge
  broken : State → Edge

-- R: 24, 36 or 48
abbrev pub sizes : List Edge
sizes =
    broken (fresh 0)
    ∷ broken (fresh 23) ∷ whole (fresh 24) ∷ broken (fresh 25)
    ∷ broken (fresh 35) ∷ whole (fresh 36) ∷ broken (fresh 37)
    ∷ broken (fresh 47) ∷ whole (fresh 48) ∷ broken (fresh 49)
    ∷ []

-- 1 ≤ row ≤ R
abbrev pub rows : List Edge
rows =
    broken (row 0 (fresh 24)) ∷ whole (row 1 (fresh 24)) ∷ whole (row 24 (fresh 24)) ∷ broken (row 25 (fresh 24))
    ∷ whole (row 36 (fresh 36)) ∷ broken (row 37 (fresh 36))
    ∷ whole (row 48 (fresh 48)) ∷ broken (row 49 (fresh 48))
    ∷ []

-- 1 ≤ column ≤ 80
abbrev pub columns : List Edge
columns = broken (column 0 (fresh 24)) ∷ whole (column 1 (fresh 24)) ∷ whole (column 80 (fresh 24)) ∷ broken (column 81 (fresh 24)) ∷ []

-- 1 ≤ T < B ≤ R
abbrev pub scrolling : List Edge
scrolling =
    broken (margins 0 24 (fresh 24)) ∷ whole (margins 1 24 (fresh 24))
    ∷ whole (margins 5 6 (fresh 24)) ∷ broken (margins 5 5 (fresh 24)) ∷ broken (margins 6 5 (fresh 24))
    ∷ whole (margins 23 24 (fresh 24)) ∷ broken (margins 24 24 (fresh 24)) ∷ broken (margins 1 25 (fresh 24))
    ∷ whole (margins 1 36 (fresh 36)) ∷ broken (margins 1 37 (fresh 36))
    ∷ whole (margins 1 48 (fresh 48)) ∷ broken (margins 1 49 (fresh 48))
    ∷ []

-- wrap due only in column 80 with autowrap on
abbrev pub wrapping : List Edge
wrapping =
    whole (autowrap (column 80 (wrap_due (fresh 24)))) ∷ broken (autowrap (column 79 (wrap_due (fresh 24))))
    ∷ broken (column 80 (wrap_due (fresh 24))) ∷ broken (column 79 (wrap_due (fresh 24)))
    ∷ whole (autowrap (column 80 (fresh 24))) ∷ whole (autowrap (column 79 (fresh 24)))
    ∷ []

-- with origin on T ≤ row ≤ B
abbrev pub origins : List Edge
origins =
    let s = margins 5 10 (fresh 24) in
    broken (origin (row 4 s)) ∷ whole (origin (row 5 s)) ∷ whole (origin (row 10 s)) ∷ broken (origin (row 11 s))
    ∷ whole (row 4 s) ∷ whole (row 11 s) ∷ whole (saved_origin (row 4 s)) ∷ whole (saved_origin (row 11 s))
    ∷ []

-- saved row and column on the page, saved wrap due only in column 80; the margins, origin and autowrap do not matter
abbrev pub saving : List Edge
saving =
    broken (saved_row 0 (fresh 24)) ∷ whole (saved_row 1 (fresh 24)) ∷ whole (saved_row 24 (fresh 24)) ∷ broken (saved_row 25 (fresh 24))
    ∷ whole (saved_row 36 (fresh 36)) ∷ broken (saved_row 37 (fresh 36))
    ∷ whole (saved_row 48 (fresh 48)) ∷ broken (saved_row 49 (fresh 48))
    ∷ broken (saved_column 0 (fresh 24)) ∷ whole (saved_column 1 (fresh 24)) ∷ whole (saved_column 80 (fresh 24)) ∷ broken (saved_column 81 (fresh 24))
    ∷ whole (saved_wrap_due (saved_column 80 (fresh 24))) ∷ broken (saved_wrap_due (saved_column 79 (fresh 24)))
    ∷ whole (autowrap (saved_wrap_due (saved_column 80 (fresh 24)))) ∷ broken (autowrap (saved_wrap_due (saved_column 79 (fresh 24))))
    ∷ (let s = saved_origin (origin (row 5 (margins 5 10 (fresh 24)))) in whole (saved_row 4 s) ∷ whole (saved_row 11 s) ∷ [])

-- at most 16 parameters, none above 9,999; what lies past the last one is none
abbrev pub parameters : List Edge
parameters =
    whole (separators 15 (fresh 24)) ∷ whole (separators 16 (fresh 24)) ∷ broken (separators 17 (fresh 24))
    ∷ whole (phase CsiParam (separators 16 (fresh 24))) ∷ broken (phase CsiParam (separators 17 (fresh 24)))
    ∷ whole (value 1 9999 (fresh 24)) ∷ broken (value 1 10000 (fresh 24))
    ∷ whole (value 2 10000 (fresh 24)) ∷ whole (separators 1 (value 2 9999 (fresh 24))) ∷ broken (separators 1 (value 2 10000 (fresh 24)))
    ∷ whole (separators 14 (value 16 10000 (fresh 24)))
    ∷ whole (separators 15 (value 16 9999 (fresh 24))) ∷ broken (separators 15 (value 16 10000 (fresh 24)))
    ∷ whole (separators 16 (value 16 9999 (fresh 24))) ∷ broken (separators 16 (value 16 10000 (fresh 24)))
    ∷ broken (phase CsiParam (value 1 10000 (fresh 24)))
    ∷ []

-- an intermediate that counts: 20 to 2F
abbrev counting : (ℕ → State) → List Edge
counting f = broken (f 0) ∷ broken (f 0x1F) ∷ whole (f 0x20) ∷ whole (f 0x2F) ∷ broken (f 0x30) ∷ []

-- and one that does not
abbrev not_counting : (ℕ → State) → List Edge
not_counting f = whole (f 0) ∷ whole (f 0x1F) ∷ whole (f 0x20) ∷ whole (f 0x2F) ∷ whole (f 0x30) ∷ []

-- where none, one and two were collected
abbrev none_counts : Phase → List Edge
none_counts p = not_counting (λ x. phase p (first x (fresh 24))) ++ not_counting (λ x. phase p (second x (fresh 24)))

abbrev one_counts : Phase → List Edge
one_counts p = counting (λ x. phase p (first x (fresh 24))) ++ not_counting (λ x. phase p (first 0x20 (second x (fresh 24))))

abbrev two_count : Phase → List Edge
two_count p = counting (λ x. phase p (first x (second 0x20 (fresh 24)))) ++ counting (λ x. phase p (first 0x20 (second x (fresh 24))))

-- at most two intermediates, 20 to 2F: the phase tells how many there are
abbrev pub intermediates : List Edge
intermediates =
    none_counts Ground
    ++ none_counts Escape ++ one_counts EscapeOne ++ two_count EscapeTwo ++ none_counts EscapeIgnore
    ++ none_counts CsiEntry ++ none_counts CsiParam ++ one_counts CsiOne ++ two_count CsiTwo ++ none_counts CsiIgnore
    ++ none_counts StringText

-- mark none or 3C to 3F, in ground too
abbrev marking : State → List Edge
marking s =
    whole (mark 0 s) ∷ broken (mark 1 s) ∷ broken (mark 0x3B s)
    ∷ whole (mark 0x3C s) ∷ whole (mark 0x3D s) ∷ whole (mark 0x3E s) ∷ whole (mark 0x3F s)
    ∷ broken (mark 0x40 s) ∷ broken (mark 0x7F s) ∷ broken (mark 0xFF s)
    ∷ []

abbrev pub marks : List Edge
marks = marking (fresh 24) ++ marking (phase CsiParam (fresh 24))

-- 80 more than a mark: a parameter has a subparameter, and a place may be joined; a number is at most 9,999 as ever
abbrev joining : ℕ → State → List Edge
joining m s =
    whole (mark m (value 1 9999 s)) ∷ whole (mark m (value 1 10000 s)) ∷ broken (mark m (value 1 10001 s)) ∷ broken (mark m (value 1 65535 s))
    ∷ whole (mark m (value 2 10001 s))
    ∷ whole (mark m (separators 15 (value 16 10000 s))) ∷ broken (mark m (separators 15 (value 16 10001 s)))
    ∷ broken (mark m (separators 17 s))
    ∷ []

abbrev pub subparameters : List Edge
subparameters =
    joining 0x80 (fresh 24) ++ joining 0x80 (phase CsiParam (fresh 24)) ++ joining 0xBC (fresh 24) ++ joining 0xBF (phase CsiOne (first 0x20 (fresh 24)))
    ++ (broken (mark 0x81 (fresh 24)) ∷ broken (mark 0xBB (fresh 24)) ∷ broken (mark 0xC0 (fresh 24)) ∷ [])

-- the line's 1 ≤ column ≤ 80
abbrev pub line_columns : State → List Edge
line_columns s = broken (line_column 0 s) ∷ whole (line_column 1 s) ∷ whole (line_column 80 s) ∷ broken (line_column 81 s) ∷ []

-- its wrap due only in column 80 with autowrap on
abbrev pub line_wrapping : State → List Edge
line_wrapping s =
    whole (autowrap (line_column 80 (line_wrap_due s))) ∷ broken (autowrap (line_column 79 (line_wrap_due s)))
    ∷ broken (line_column 80 (line_wrap_due s)) ∷ broken (line_column 79 (line_wrap_due s))
    ∷ whole (autowrap (line_column 80 s)) ∷ whole (autowrap (line_column 79 s))
    ∷ []

-- its saved column 1 to 80, its saved wrap due only in column 80; autowrap does not matter
abbrev pub line_saving : State → List Edge
line_saving s =
    broken (line_saved_column 0 s) ∷ whole (line_saved_column 1 s) ∷ whole (line_saved_column 80 s) ∷ broken (line_saved_column 81 s)
    ∷ whole (line_saved_wrap_due (line_saved_column 80 s)) ∷ broken (line_saved_wrap_due (line_saved_column 79 s))
    ∷ whole (autowrap (line_saved_wrap_due (line_saved_column 80 s))) ∷ broken (autowrap (line_saved_wrap_due (line_saved_column 79 s)))
    ∷ []

-- the same where the line is active, which asks for a type
abbrev pub status_line : List Edge
status_line =
    let on = line_active (typed (fresh 24)) in
    line_columns (fresh 24) ++ line_wrapping (fresh 24) ++ line_saving (fresh 24)
    ++ line_columns on ++ line_wrapping on ++ line_saving on
    ++ (whole on ∷ whole (typed (fresh 24)) ∷ broken (line_active (fresh 24)) ∷ [])

-- no changed row above R
abbrev pub changes : List Edge
changes =
    whole (changed_rows (2 ^ 23) (fresh 24)) ∷ whole (changed_rows (2 ^ 24 - 1) (fresh 24)) ∷ broken (changed_rows (2 ^ 24) (fresh 24))
    ∷ whole (changed_rows (2 ^ 35) (fresh 36)) ∷ whole (changed_rows (2 ^ 36 - 1) (fresh 36)) ∷ broken (changed_rows (2 ^ 36) (fresh 36))
    ∷ whole (changed_rows (2 ^ 47) (fresh 48)) ∷ whole (changed_rows (2 ^ 48 - 1) (fresh 48)) ∷ broken (changed_rows (2 ^ 48) (fresh 48))
    ∷ broken (changed_rows (2 ^ 63) (fresh 48))
    ∷ []

-- nothing else is asked
abbrev pub others : List Edge
others =
    whole (all_else (fresh 24)) ∷ whole (all_else (fresh 36)) ∷ whole (all_else (fresh 48)) ∷ whole (all_else (line_active (typed (fresh 24)))) ∷ []

abbrev pub table : List Edge
table =
    sizes ++ rows ++ columns ++ scrolling ++ wrapping ++ origins ++ saving ++ parameters ++ intermediates ++ marks ++ subparameters ++ status_line ++ changes
    ++ others

-- ---- the statement

-- a state is as the table has it
unfoldable pub holds : Edge → Bool
unfolding fresh_core whole_core whole_displays whole_state
holds (whole s) = whole_state s
holds (broken s) = not (whole_state s)

abbrev pub all_hold : List Edge → Bool
all_hold [] = true
all_hold (e ∷ es) = holds e && all_hold es

-- Every state of the table is whole or broken as the table says.
abbrev pub Edges : Type 0
Edges = all_hold table ≡ true
