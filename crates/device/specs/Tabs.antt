-- Tab stops: 80 flags, one for each column, counted from 1.
use Rattle.std.specs.Prelude.{Bool, cond, List, [], ◌∷◌, ◌++◌, ℕ, zero, suc, ◌+◌, ◌-◌, ◌/◌, ◌%◌, ◌^◌, get_or, set, replicate}
use Rattle.cells.specs.Sets.{has_bit}
use Rattle.device.specs.declared.tabs.Tabs.{Tabs}

-- the byte that holds a column's flag
abbrev pub tab_byte : Tabs → ℕ → ℕ
tab_byte t c = get_or t.flags ((c - 1) / 8) 0

abbrev pub is_tab : Tabs → ℕ → Bool
is_tab t c = has_bit (tab_byte t c) ((c - 1) % 8)

abbrev pub with_byte : Tabs → ℕ → ℕ → Tabs
with_byte t c b = record { flags = set t.flags ((c - 1) / 8) b }

unfoldable pub with_tab : Tabs → ℕ → Tabs
with_tab t c = cond (is_tab t c) t (with_byte t c (tab_byte t c + 2 ^ ((c - 1) % 8)))

unfoldable pub without_tab : Tabs → ℕ → Tabs
without_tab t c = cond (is_tab t c) (with_byte t c (tab_byte t c - 2 ^ ((c - 1) % 8))) t

abbrev pub no_tabs : Tabs
no_tabs = record { flags = replicate 10 0 }

-- the first tab among the n columns right of c, else the last of these columns
unfoldable pub next_among : ℕ → Tabs → ℕ → ℕ
next_among zero t c = c
next_among (suc n) t c =
    let more = next_among n t (suc c) in
    cond (is_tab t (suc c)) (suc c) more

-- the next tab right of column c, else the last column
abbrev pub next_tab : Tabs → ℕ → ℕ → ℕ
next_tab t c last = next_among (last - c) t c

-- the columns 1 to n that have a tab
unfoldable pub tabs_up_to : ℕ → Tabs → List ℕ
tabs_up_to zero t = []
tabs_up_to (suc n) t = tabs_up_to n t ++ cond (is_tab t (suc n)) (suc n ∷ []) []

-- at 9, 17 and so on to 73
abbrev pub every_eighth : Tabs
every_eighth = record { flags = 0 ∷ replicate 9 1 }
