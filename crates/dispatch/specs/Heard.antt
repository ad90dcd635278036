-- What is heard (SCOPE 3.16 and 5): an action that is not listed, or that is ignored here and now,
-- is nothing. Functions, wrap due and replies are of what is heard.
use Rattle.std.specs.Prelude.{ℕ, Bool, true, false, cond, not, ◌&&◌, ◌||◌, List, [], ◌∷◌, ◌==◌, nat_le, nat_lt}
use Rattle.parser.specs.declared.params.Params.{Params}
use Rattle.parser.specs.declared.parser.Action.{Action}
use Rattle.parser.specs.declared.parser.Action.TheVariants.{Nothing, Character, Substitute, Control, C1Control, EscapeSequence, ControlSequence}
use Rattle.core_state.specs.declared.Core.{Core}
use Rattle.core_state.specs.StatusLine.{is_line}
use Rattle.parser.specs.Params.{param, member}
use Rattle.parser.specs.Families.{is_plain, is_private, is_protection, is_soft_reset, is_dollar, is_extent}
use Rattle.csi.specs.Sequences.{margins_taken}

-- ---- what is listed

-- BS, HT, LF, VT, FF, CR, SO, SI
abbrev pub controls : List ℕ
controls = 0x08 ∷ 0x09 ∷ 0x0A ∷ 0x0B ∷ 0x0C ∷ 0x0D ∷ 0x0E ∷ 0x0F ∷ []

-- IND, NEL, HTS, RI, SS2, SS3, DECID
abbrev pub c1_controls : List ℕ
c1_controls = 0x84 ∷ 0x85 ∷ 0x88 ∷ 0x8D ∷ 0x8E ∷ 0x8F ∷ 0x9A ∷ []

-- ESC 7, 8, c, n, o, |, }, ~
abbrev pub plain_escapes : List ℕ
plain_escapes = 0x37 ∷ 0x38 ∷ 0x63 ∷ 0x6E ∷ 0x6F ∷ 0x7C ∷ 0x7D ∷ 0x7E ∷ []

-- a designation's end: B, 0, % 5 for a 94-sign set, A for the 96-sign set
abbrev pub names94 : ℕ → ℕ → Bool
names94 second last = (second == 0 && last == 0x42) || ((second == 0 && last == 0x30) || (second == 0x25 && last == 0x35))

abbrev pub names96 : ℕ → ℕ → Bool
names96 second last = second == 0 && last == 0x41

-- with an intermediate: ESC sp F and G, ESC # 8, ESC ( ) * +, ESC - . /
abbrev pub listed_escape : ℕ → ℕ → ℕ → Bool
listed_escape first second last =
    cond (first == 0) (member last plain_escapes)
    (cond (first == 0x20) (second == 0 && member last (0x46 ∷ 0x47 ∷ []))
    (cond (first == 0x23) (second == 0 && last == 0x38)
    (cond (member first (0x28 ∷ 0x29 ∷ 0x2A ∷ 0x2B ∷ [])) (names94 second last)
    (member first (0x2D ∷ 0x2E ∷ 0x2F ∷ []) && names96 second last))))

-- CSI @, A, B, C, D, H, J, K, L, M, P, X, c, f, g, h, l, m, n, r
abbrev pub plain_finals : List ℕ
plain_finals =
    0x40 ∷ 0x41 ∷ 0x42 ∷ 0x43 ∷ 0x44 ∷ 0x48 ∷ 0x4A ∷ 0x4B ∷ 0x4C ∷ 0x4D ∷ 0x50 ∷ 0x58
    ∷ 0x63 ∷ 0x66 ∷ 0x67 ∷ 0x68 ∷ 0x6C ∷ 0x6D ∷ 0x6E ∷ 0x72 ∷ []

-- CSI ? J, K, h, l, n
abbrev pub private_finals : List ℕ
private_finals = 0x4A ∷ 0x4B ∷ 0x68 ∷ 0x6C ∷ 0x6E ∷ []

-- CSI > c
abbrev pub is_secondary : ℕ → ℕ → ℕ → ℕ → Bool
is_secondary mark first second last = (mark == 0x3E && (first == 0 && second == 0)) && last == 0x63

-- CSI $ r, t, v, x, z, {, on rectangles; }, ~, of the status line
abbrev pub dollar_finals : List ℕ
dollar_finals = 0x72 ∷ 0x74 ∷ 0x76 ∷ 0x78 ∷ 0x7A ∷ 0x7B ∷ 0x7D ∷ 0x7E ∷ []

-- CSI " q, CSI ! p, those with $ and CSI * x
abbrev pub listed_rest : ℕ → ℕ → ℕ → ℕ → Bool
listed_rest mark first second last =
    is_protection mark first second last || (is_soft_reset mark first second last
    || ((is_dollar mark first second && member last dollar_finals) || is_extent mark first second last))

abbrev pub listed_sequence : ℕ → ℕ → ℕ → ℕ → Bool
listed_sequence mark first second last =
    cond (is_plain mark first second) (member last plain_finals)
    (cond (is_private mark first second) (member last private_finals)
    (is_secondary mark first second last || listed_rest mark first second last))

-- printing, and what is nothing already, is heard as it is
abbrev pub is_listed : Action → Bool
is_listed Nothing = true
is_listed (Character b) = true
is_listed Substitute = true
is_listed (Control b) = member b controls
is_listed (C1Control b) = member b c1_controls
is_listed (EscapeSequence first second last) = listed_escape first second last
is_listed (ControlSequence f) = listed_sequence f.mark f.first f.second f.last

-- ---- what is ignored here and now

abbrev pub inside_margins : Core → Bool
inside_margins c = nat_le c.margins.top c.cursor.row && nat_le c.cursor.row c.margins.bottom

-- J and K with another selector than 0, 1, 2; @, L, M and P outside T to B, L and M on the status line; r unless top < bottom, so there too
abbrev pub plain_ignored : Core → Params → ℕ → Bool
plain_ignored c q last =
    cond (member last (0x4A ∷ 0x4B ∷ [])) (nat_lt 2 (param q 0))
    (cond (member last (0x40 ∷ 0x50 ∷ [])) (not (inside_margins c))
    (cond (member last (0x4C ∷ 0x4D ∷ [])) (is_line c || not (inside_margins c))
    (last == 0x72 && not (margins_taken c q))))

-- ? J and ? K likewise
abbrev pub private_ignored : Params → ℕ → Bool
private_ignored q last = member last (0x4A ∷ 0x4B ∷ []) && nat_lt 2 (param q 0)

abbrev pub ignored_sequence : Core → Params → ℕ → ℕ → ℕ → ℕ → Bool
ignored_sequence c q mark first second last =
    cond (is_plain mark first second) (plain_ignored c q last)
    (is_private mark first second && private_ignored q last)

abbrev pub is_ignored : Core → Action → Bool
is_ignored c Nothing = false
is_ignored c (Character b) = false
is_ignored c Substitute = false
is_ignored c (Control b) = false
is_ignored c (C1Control b) = false
is_ignored c (EscapeSequence first second last) = false
is_ignored c (ControlSequence f) = ignored_sequence c c.parser.params f.mark f.first f.second f.last

abbrev pub unless_ignored : Core → Action → Action
unless_ignored c a = cond (is_ignored c a) Nothing a

-- ---- what is heard

abbrev pub is_heard : Core → Action → Bool
is_heard c a = is_listed a && not (is_ignored c a)

abbrev pub heard : Core → Action → Action
heard c a = cond (is_heard c a) a Nothing
