-- The search for the next tab, and the looks that it takes: at one flag, or at eight together (request 2026-06).
use Rattle.std.specs.Prelude.{◌≡◌, Bool, false, cond, ◌||◌, ℕ, zero, suc, ◌+◌, ◌-◌, ◌/◌, ◌%◌, ◌≤◌}
use Rattle.device.specs.declared.tabs.Tabs.{Tabs}
use Rattle.device.specs.declared.tabs.Found.{Found}
use Rattle.device.specs.Tabs.{is_tab, next_tab}

-- n looks, and then a search
abbrev pub after : ℕ → Found → Found
after n f = record { column = f.column; looks = n + f.looks }

-- at a column, with no look more
abbrev pub ends_at : ℕ → Found
ends_at c = record { column = c; looks = 0 }

-- whether one of the n columns right of c has a tab
unfoldable pub any_among : ℕ → Tabs → ℕ → Bool
any_among zero t c = false
any_among (suc n) t c = is_tab t (suc c) || any_among n t (suc c)

-- the n columns right of c, with a look at the flag of each up to the first tab; where there is none the search goes on as `rest`
unfoldable pub flag_by_flag : ℕ → Tabs → ℕ → Found → Found
flag_by_flag zero t c rest = rest
flag_by_flag (suc n) t c rest =
    let more = flag_by_flag n t (suc c) rest in
    after 1 (cond (is_tab t (suc c)) (ends_at (suc c)) more)

-- the n eights right of c, with one look at the eight flags of each up to the first that has a tab, and then at its flags
unfoldable pub eight_by_eight : ℕ → Tabs → ℕ → Found
eight_by_eight zero t c = ends_at c
eight_by_eight (suc n) t c =
    let more = eight_by_eight n t (c + 8) in
    after 1 (cond (any_among 8 t c) (flag_by_flag 8 t c more) more)

-- the search from column c: flag by flag to the end of its eight, then eight by eight to the last column
abbrev pub searched : Tabs → ℕ → Found
searched t c = let near = (80 - c) % 8 in flag_by_flag near t c (eight_by_eight ((80 - c) / 8) t (c + near))

-- The same answers, and no search takes more than 24 looks.
pub record Quick (t : Tabs) (c : ℕ) : Type 0 where
  pub same : (searched t c).column ≡ next_tab t c 80
  pub few : (searched t c).looks ≤ 24

abbrev pub EverySearch : Type 0
EverySearch = (t : Tabs) (c : ℕ) → Quick t c
