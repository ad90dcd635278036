-- A byte that only moves the parser is all that a feeding of it does, on a plain record.
use Rattle.std.proofs.Common.{◌≡◌, ℕ, ◌*◌, ◌≤◌, Bool, true, cond, ◌&&◌, ◌||◌, eqb, ltb, List, [], ◌∷◌, length, get_or, sym, refl, ap, ◌∙◌, subst, zero-le, arith, ne_eqb, eqb-true}
use Rattle.ground.specs.Tests.{between}
use Rattle.ground.proofs.TestLaws.{and_left, and_right, or_cases, between-low, between-high, in_between}
use Rattle.parser.specs.declared.phases.Phase.TheVariants.{CsiParam}
use Rattle.parser.specs.declared.parser.Parser.{Parser}
use Rattle.parser.specs.Params.{with_byte}
use Rattle.parser.specs.Families.{joined_mark}
use Rattle.parser.specs.Phases.{takes_parameters, phase_of}
use Rattle.parser.specs.Parser.{with_params, mark_after}
use Rattle.idle.specs.Idle.{Skipped}
use Rattle.idle.proofs.IdleLaws.{skipped-none, skipped-parameter}
use Rattle.core_state.specs.declared.Core.{Core}
use Rattle.core_state.specs.Effects.{with_parser}
use Rattle.steps.specs.declared.State.{State}
use Rattle.steps.specs.Steps.{buffers}
use Rattle.steps.proofs.ByteLaws.{ready-paged}
use Rattle.spans.proofs.SpannedLaws.{spanned-idle}
use Rattle.feeding.proofs.OnceLaws.{page_done, once-fed}
use Rattle.record.specs.declared.Terminal.{Terminal}
use Rattle.record.specs.Record.{core_of, named, state_of, record_of}
use Rattle.record.specs.Plain.{plain}
use Rattle.record.proofs.PlainLaws.{plain-named, plain-whole}
use Rattle.record.proofs.EmptiedLaws.{record-back}
use Rattle.record.proofs.RecordLaws.{state-back}
use Rattle.terminal.specs.Answers.{Done}
use Rattle.terminal.specs.Feed.{feed_as}
use Rattle.terminal.proofs.CallLaws.{fit-sizes, fed-bytes}
use Rattle.inplace.specs.InPlace.{steers_by, steers_in_place, with_numbers, reparsed, FedInPlace}
use Rattle.inplace.proofs.PlaceLaws.{sized, ready, page-active}

pub one_byte : (xs : List ℕ) → length xs ≡ 1 → get_or xs 0 0 ∷ [] ≡ xs
one_byte [] e = absurd (omega arith)
one_byte (x ∷ []) e = refl
one_byte (x ∷ (y ∷ ys)) e = absurd (omega arith)

-- a digit or 3B is a parameter's byte, and joins none
pub parameter-skipped : (s : Parser) (b : ℕ) → takes_parameters s.phase ≡ true → (between 0x30 b 0x39 || eqb b 0x3B) ≡ true
    → Skipped s (b ∷ []) 0 (record { parser = with_params CsiParam s s.mark (with_byte s.params b); next = 1 })
parameter-skipped s b takes h = or_cases (between 0x30 b 0x39) (eqb b 0x3B) h
    (λ d. let l = between-low 0x30 b 0x39 d in let u = between-high 0x30 b 0x39 d in read (omega arith) (omega arith) (λ x. omega arith))
    (λ d. let x = eqb-true b 0x3B d in read (omega arith) (omega arith) (λ y. omega arith))
  where
    read : 0x30 ≤ b → b ≤ 0x3B → (b ≡ 0x3A → ⊥) → Skipped s (b ∷ []) 0 (record { parser = with_params CsiParam s s.mark (with_byte s.params b); next = 1 })
    read l u n =
        let same : mark_after s b ≡ s.mark = ap (λ (x : Bool). cond (x && ltb s.params.separators 16) (joined_mark s.mark) s.mark) (ne_eqb b 0x3A n) in
        subst (λ (m : ℕ). Skipped s (b ∷ []) 0 (record { parser = with_params CsiParam s m (with_byte s.params b); next = 1 })) same
        (skipped-parameter (skipped-none s (b ∷ []) 0 zero-le) takes (rw (in_between 0x30 b 0x3B l u)) (omega arith))

-- what the test tells
pub steering : (t : Terminal) (input : List ℕ) → steers_in_place t input ≡ true
    → (length input ≡ 1) × (steers_by (phase_of t.parser.phase) (get_or input 0 0) ≡ true)
unfolding steers_in_place
steering t input e =
    let by = steers_by (phase_of t.parser.phase) (get_or input 0 0) in
    (eqb-true (length input) 1 (and_left (eqb (length input) 1) by e), and_right (eqb (length input) 1) by e)

module _ (t : Terminal) (e : plain t ≡ true) (q : Parser) where
  abbrev s : State
  s = state_of t

  abbrev c : Core
  c = s.displays.core

  abbrev done : State
  done = page_done s (with_parser c q) s.tracked.changed

  -- the record with another parser is that of the state with it
  reparsed-is : record_of done ≡ reparsed t q
  unfolding record_of state_of core_of named
  reparsed-is = ap (λ (x : Terminal). reparsed x q) (record-back (with_numbers t t.changed t.cursor t.values t.parser) (plain-named t e) refl)

  reparsed-state : state_of (reparsed t q) ≡ done
  reparsed-state = sym (ap state_of reparsed-is) ∙ state-back done

  pub reparsed-fed : (b : ℕ) → Skipped c.parser (b ∷ []) 0 (record { parser = q; next = 1 }) → (p : List ℕ) → length p ≡ 80 * t.rows
      → FedInPlace t p (b ∷ []) (reparsed t q) p
  reparsed-fed b S p long = record {
    fed-is = λ line reply h.
        ap (λ (x : State). feed_as Done 1 0 x (buffers p line) reply) reparsed-state
        ∙ fed-bytes s (buffers p line) (b ∷ []) reply _
        (once-fed s (buffers p line) (b ∷ []) reply (with_parser c q) s.tracked.changed p (ready t e p long) h (page-active t e)
        (spanned-idle c s.tracked.changed p (b ∷ []) 0 (record { parser = q; next = 1 }) (ready-paged s p (ready t e p long)) S))
        (plain-whole t e) (fit-sizes c.rows (buffers p line) (sized t e p long) h);
    back = sym reparsed-is ∙ sym (ap record_of reparsed-state);
  }
