-- `text::write_text` meets its contract: it compares what the definition compares.
use mathlib.Core.Path.{◌≡◌, sym}
use native.Mathlib.Omega.{arith}
use lib.ListN.{length}
use Rattle.text.specs.Text.{page_text}
use Rattle.text.proofs.TextLaws.{written-whole, written_none}
use Rattle.text.proofs.write_text.Goals as goal

pub returns-then-out-text_len : goal.returns-then-out-text_len
returns-then-out-text_len c = sym (written_none _ _ (omega arith))

pub returns : goal.returns
returns c =
    let a = c.args in
    let count : length (page_text a.page.now) ≡ c.write_rows.result = omega (arith, c.write_rows.ensures) in
    rw (written-whole a.page.now a.out.now (omega arith), count, ← c.write_rows.ensures.is)
