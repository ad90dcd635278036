-- CSI, as one byte or as ESC [, only moves the parser; at another byte nothing is read.
use mathlib.Core.Path.{refl, sym, ◌∙◌}
use mathlib.Core.List.{List}
use Prim.Native.Nat.{ℕ, ◌+◌, ◌≤◌}
use native.Mathlib.Nat.{le_refl}
use native.Mathlib.Omega.{arith}
use lib.Dec.{ltb}
use lib.ListN.{length}
use borrow.Author.Tests.{lt-ltb, le-ltb}
use Rattle.parser.specs.declared.parser.Parser.{Parser}
use Rattle.idle.specs.Idle.{begun, Skipped, AfterCsi}
use Rattle.idle.proofs.IdleLaws.{skipped-none, skipped-known, skipped-on, escape-idle, csi-idle, csi-byte-idle}
use Rattle.idle.proofs.after_csi.Goals as goal

pub returns-then-byte_is-2 : goal.returns-then-byte_is-2
unfolding AfterCsi
returns-then-byte_is-2 c s =
    let from = c.args.from in
    rw (lt-ltb from (from + 1 + 1) (omega arith))
    (skipped-on
    (skipped-known s _ _ _ 0x1B (sym c.byte_is.ensures ∙ c.if-byte_is.true) (escape-idle s))
    (skipped-known _ _ _ _ 0x5B (sym c.byte_is-then-byte_is.ensures ∙ c.if-byte_is-2.true) (csi-idle _ refl)))

-- with none, the place itself
none : (s : Parser) (input : List ℕ) (from : ℕ) → from ≤ length input → Skipped s input from (record { parser = begun (ltb from from) s; next = from })
none s input from h = rw (le-ltb from from (le_refl from)) (skipped-none s input from h)

pub returns-then-byte_is : goal.returns-then-byte_is
unfolding AfterCsi
returns-then-byte_is c s = none s _ _ c.requires

pub returns-then-byte_is-3 : goal.returns-then-byte_is-3
unfolding AfterCsi
returns-then-byte_is-3 c s =
    let from = c.args.from in
    rw (lt-ltb from (from + 1) (omega arith)) (skipped-known s _ _ _ 0x9B (sym c.byte_is-2.ensures ∙ c.if-byte_is-3.true) (csi-byte-idle s))

pub returns-else-byte_is-3 : goal.returns-else-byte_is-3
unfolding AfterCsi
returns-else-byte_is-3 c s = none s _ _ c.requires
