-- A buffer of 241 bytes a row holds the text of so many rows.
use Rattle.std.proofs.Common.{◌≡◌, ℕ, ◌+◌, ◌*◌, ◌≤◌, List, length, take, sym, refl, ap, ◌∙◌, arith, length-take-le}
use lib.Seq.{sets, length-sets}
use Rattle.std.specs.Prelude.{Result, Ok, IsOk}
use Rattle.text.specs.declared.TooSmall.{TooSmall}
use Rattle.text.specs.Text.{text_of, Write, written_number, write_as, written}
use Rattle.text.proofs.TextLaws.{text-short, always-whole}

module _ (n : ℕ) (p o : List ℕ) {r : Result ℕ TooSmall} {o' : List ℕ} (size : length p ≡ 80 * n) (room : 80 * 3 * n + n ≤ length o)
    (e : record { number = written_number r; result = r; buffer = o' } ≡ written p o) where
  whole : record { number = written_number r; result = r; buffer = o' } ≡ write_as (Ok (length (text_of n p))) (sets o 0 (text_of n p))
  whole = e ∙ always-whole n p o size room

  pub rows-ok : IsOk r
  rows-ok = go r (ap (λ (w : Write). w.result) whole)
    where
      go : (r : Result ℕ TooSmall) → r ≡ Ok (length (text_of n p)) → IsOk r
      go r e = rw e refl

  pub rows_written : o' ≡ sets o 0 (text_of n p)
  rows_written = ap (λ (w : Write). w.buffer) whole

  -- the bytes that were written are within the buffer
  pub rows-within : (len : ℕ) → r ≡ Ok len → len ≤ length o'
  rows-within len er =
      let result : r ≡ Ok (length (text_of n p)) = ap (λ (w : Write). w.result) whole in
      let same : len ≡ length (text_of n p) = cc in
      omega (arith, text-short n p, ap length rows_written, length-sets o 0 (text_of n p))

  pub rows_taken : (len : ℕ) → r ≡ Ok len → len ≡ length (take len o')
  rows_taken len er = sym (length-take-le len o' (rows-within len er))
