-- What the loop over one display's bytes keeps.
use Rattle.std.proofs.Common.{◌≡◌, ℕ, ◌+◌, ◌<◌, ◌≤◌, Bool, true, false, not, ◌&&◌, eqb, List, [], ◌∷◌, ◌++◌, length, get_or, take, sym, refl, ap, ◌∙◌, subst, zero-le, add-one, arith, take-suc, eqb-true}
use Rattle.ground.specs.Spans.{span}
use Rattle.ground.proofs.SpanLaws.{take-span}
use Rattle.core_state.specs.declared.Core.{Core}
use Rattle.dispatch.specs.Decide.{decided}
use Rattle.dispatch.specs.Events.{interrupts}
use Rattle.dispatch.proofs.EventLaws.{left_false, uninterrupted}
use Rattle.steps.specs.declared.byte.AfterByte.{AfterByte}
use Rattle.steps.specs.OneDisplay.{Display, display, acts, acts_over, core_over, lasting, AllQuiet, RestQuiet}
use Rattle.steps.specs.Ready.{Paged}
use Rattle.spans.specs.Spans.{Spanned}
use Rattle.steps.proofs.DisplayLaws.{over-append, acts-core, over-core, and_assoc, lasting-last, lasting-append, rest-append, PagedAt, acts-paged, acts-long}
use Rattle.feeding.specs.Runs.{Ran}

pub record Running (c : Core) (n : ℕ) (p input : List ℕ) (i : ℕ) (c' : Core) (n' : ℕ) (on : Bool) (p' : List ℕ) : Type 0 where
  pub within : i ≤ length input
  pub display-is : display c' p' n' ≡ acts_over (display c p n) (take i input)
  pub quiet : RestQuiet c (take i input)
  pub lasts : on ≡ lasting c (take i input)
  pub paged : Paged c' p'
  pub long : length p' ≡ length p

pub running_none : (c : Core) (n : ℕ) (p input : List ℕ) → Paged c p → Running c n p input 0 c n c.modes.autowrap p
unfolding acts_over RestQuiet lasting
running_none c n p input k = record {
  within = zero-le;
  display-is = refl;
  quiet = tt;
  lasts = refl;
  paged = k;
  long = refl;
}

module _ {c : Core} {n : ℕ} {p input : List ℕ} {i : ℕ} {c' : Core} {n' : ℕ} {on : Bool} {p' : List ℕ} (R : Running c n p input i c' n' on p') where
  core_is : c' ≡ core_over c (take i input)
  core_is = ap (λ (d : Display). d.core) R.display-is ∙ over-core (display c p n) (take i input)

  -- autowrap is on as far as it lasted
  on-last : (on && c'.modes.autowrap) ≡ on
  on-last = rw (R.lasts, core_is) (lasting-last c (take i input))

  -- bytes that do not interrupt
  pub running-span : (j : ℕ) (c'' : Core) (n'' : ℕ) (p'' : List ℕ) → Spanned c' n' p' input i j c'' n'' p'' → Running c n p input j c'' n'' on p''
  running-span j c'' n'' p'' S =
      let xs : List ℕ = take i input in
      let ys : List ℕ = span input i j in
      let taken : take j input ≡ xs ++ ys = take-span input i j S.start in
      record {
        within = S.end;
        display-is = cc (S.display-is, R.display-is, over-append (display c p n) xs ys, taken);
        quiet = rw taken (rest-append c xs ys R.quiet (subst (λ (x : Core). AllQuiet x ys) core_is S.quiet));
        lasts =
            sym on-last ∙ ap (λ (t : Bool). on && t) (sym S.lasts)
            ∙ ap (λ (t : Bool). t && lasting c' ys) R.lasts ∙ ap (λ (x : Core). lasting c xs && lasting x ys) core_is
            ∙ sym (lasting-append c xs ys) ∙ ap (lasting c) (sym taken);
        paged = S.paged;
        long = S.long ∙ R.long;
      }

  module _ (more : i < length input) (b : ℕ) (eb : b ≡ get_or input i 0) where
    taken : take (i + 1) input ≡ take i input ++ (b ∷ [])
    taken = rw (add-one, eb) (take-suc input i 0 more)

    -- the first byte, or one that does not interrupt
    still-quiet : (interrupts c'.parser.phase b && not (eqb i 0)) ≡ false → RestQuiet c (take i input ++ (b ∷ []))
    unfolding RestQuiet AllQuiet
    still-quiet h = go (eqb i 0) refl
      where
        go : (t : Bool) → eqb i 0 ≡ t → RestQuiet c (take i input ++ (b ∷ []))
        go true e = rw (eqb-true i 0 e) tt
        go false e =
            let quiet = uninterrupted c'.parser b (left_false (interrupts c'.parser.phase b) (rw e at h)) in
            rest-append c (take i input) (b ∷ []) R.quiet (subst (λ (x : Core). AllQuiet x (b ∷ [])) core_is (quiet, tt))

    -- one byte more
    pub running_more : (interrupts c'.parser.phase b && not (eqb i 0)) ≡ false → (a : AfterByte) (q : List ℕ)
        → display a.core q a.changed ≡ acts (display c' p' n') b → Running c n p input (i + 1) a.core a.changed (on && a.core.modes.autowrap) q
    unfolding acts_over lasting
    running_more h a q is =
        let xs : List ℕ = take i input in
        let ec : a.core ≡ (decided c' b).core = ap (λ (d : Display). d.core) is ∙ acts-core (display c' p' n') b in
        let on' : Bool = a.core.modes.autowrap in
        record {
          within = omega arith;
          display-is = cc (is, R.display-is, over-append (display c p n) xs (b ∷ []), taken);
          quiet = rw taken (still-quiet h);
          lasts =
              ap (λ (t : Bool). t && on') (sym on-last) ∙ and_assoc on c'.modes.autowrap on'
              ∙ ap (λ (x : Core). on && (c'.modes.autowrap && x.modes.autowrap)) ec
              ∙ ap (λ (t : Bool). t && lasting c' (b ∷ [])) R.lasts ∙ ap (λ (x : Core). lasting c xs && lasting x (b ∷ [])) core_is
              ∙ sym (lasting-append c xs (b ∷ [])) ∙ ap (lasting c) (sym taken);
          paged = subst PagedAt (sym is) (acts-paged (display c' p' n') b R.paged);
          long = ap (λ (d : Display). length d.cells) is ∙ acts-long (display c' p' n') b R.paged ∙ R.long;
        }

  -- the loop is left here
  pub running-ran : (0 < length input → 0 < i) → Ran c n p input (record { core = c'; changed = n'; lasting = on; read = i }) p'
  running-ran some = record { most = R.within; some = some; display-is = R.display-is; quiet = R.quiet; lasts = R.lasts }
