-- The attributes that DECCARA and DECRARA list (SCOPE 5.53 to 5.55), as one change of each.
use Rattle.std.specs.Prelude.{ℕ, Bool, cond, not, List, [], ◌∷◌, drop, ◌==◌, nat_lt, Option, None, Some, unwrap_or}
use Rattle.std.specs.Option.{option_or}
use Rattle.ground.specs.Folds.{folded}
use Rattle.cells.specs.declared.Setting.{Setting}
use Rattle.cells.specs.declared.Setting.TheVariants.{Same, On, Off, Flipped}
use Rattle.cells.specs.declared.Styling.{Styling}
use Rattle.parser.specs.declared.params.Params.{Params}
use Rattle.parser.specs.Params.{param_count, param_list, member}

abbrev pub every : Setting → Styling
every x = record { bold = x; underline = x; blink = x; reverse = x }

abbrev pub style_bold : Styling → Setting → Styling
style_bold s x = record s { bold = x }

abbrev pub style_underline : Styling → Setting → Styling
style_underline s x = record s { underline = x }

abbrev pub style_blink : Styling → Setting → Styling
style_blink s x = record s { blink = x }

abbrev pub style_reverse : Styling → Setting → Styling
style_reverse s x = record s { reverse = x }

-- a setting, and then a flip
abbrev pub flipped : Setting → Setting
flipped Same = Flipped
flipped On = Off
flipped Off = On
flipped Flipped = Same

-- ---- one value

-- change: those of SGR
unfoldable pub change_by : Styling → ℕ → Styling
change_by s v =
    cond (v == 0) (every Off)
    (cond (v == 1) (style_bold s On)
    (cond (v == 4) (style_underline s On)
    (cond (v == 5) (style_blink s On)
    (cond (v == 7) (style_reverse s On)
    (cond (v == 22) (style_bold s Off)
    (cond (v == 24) (style_underline s Off)
    (cond (v == 25) (style_blink s Off)
    (cond (v == 27) (style_reverse s Off) s))))))))

-- reverse: 0 all four, 1, 4, 5, 7 one
unfoldable pub reverse_by : Styling → ℕ → Styling
reverse_by s v =
    cond (v == 0) (record { bold = flipped s.bold; underline = flipped s.underline; blink = flipped s.blink; reverse = flipped s.reverse })
    (cond (v == 1) (style_bold s (flipped s.bold))
    (cond (v == 4) (style_underline s (flipped s.underline))
    (cond (v == 5) (style_blink s (flipped s.blink))
    (cond (v == 7) (style_reverse s (flipped s.reverse)) s))))

-- the values of each
abbrev pub is_listed : Bool → ℕ → Bool
is_listed reversing v = cond (member v (22 ∷ 24 ∷ 25 ∷ 27 ∷ [])) (not reversing) (member v (0 ∷ 1 ∷ 4 ∷ 5 ∷ 7 ∷ []))

-- ---- a list of them

-- one value: nothing where it is not one of the function's
abbrev pub one_value : Bool → Styling → ℕ → Option Styling
one_value reversing s v = cond (is_listed reversing v) (Some (cond reversing (reverse_by s v) (change_by s v))) None

-- what is listed so far: each attribute stays the same where nothing is
abbrev pub listed_styling : Option Styling → Styling
listed_styling m = unwrap_or m (every Same)

-- one value more
abbrev pub one_more : Bool → Option Styling → ℕ → Option Styling
one_more reversing m v = option_or (one_value reversing (listed_styling m) v) m

-- the parameters from the fifth on; none is one 0
abbrev pub attributes : Params → List ℕ
attributes q = cond (nat_lt 4 (param_count q)) (drop 4 (param_list q)) (0 ∷ [])

-- nothing where no value is one of the function's
unfoldable pub restyling_of : Bool → Params → Option Styling
restyling_of reversing q = folded (one_more reversing) None (attributes q)
