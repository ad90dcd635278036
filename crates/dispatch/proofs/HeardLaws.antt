-- What is not listed has no function and draws no reply, so the code asks only what is ignored here and now.
use Rattle.std.proofs.Common.{◌≡◌, ℕ, Bool, true, false, cond, not, ◌&&◌, ◌||◌, eqb, None, Some, List, sym, refl, ap, ◌∙◌, ne_eqb}
use mathlib.Core.Bool.{false≢true, and-true, and-false}
use Rattle.parser.specs.declared.params.Params.{Params}
use Rattle.parser.specs.declared.parser.Action.{Action}
use Rattle.parser.specs.declared.parser.Action.TheVariants.{Nothing, Character, Substitute, Control, C1Control, EscapeSequence, ControlSequence}
use Rattle.device.specs.declared.sending.Reply.TheVariants.{SecondaryAttributes}
use Rattle.core_state.specs.declared.Core.{Core}
use Rattle.vt.specs.Controls.{controlled, c1_controlled}
use Rattle.vt.specs.Escapes.{escaped}
use Rattle.core_state.specs.Effects.{one_edit, unedited}
use Rattle.parser.specs.Params.{param, member}
use Rattle.parser.specs.Families.{is_plain, is_private, is_protection, is_soft_reset, is_dollar, is_extent}
use Rattle.page.specs.declared.Edit.{Edit}
use Rattle.rectangles.specs.Areas.{area_at, is_taken}
use Rattle.rectangles.specs.Functions.{rectangle_edit, select_extent}
use Rattle.csi.specs.Sequences.{select_protection, soft_reset, plain_sequence, private_sequence, sequenced}
use Rattle.ground.proofs.TestLaws.{or_left, or_right, either, at-number}
use Rattle.dispatch.specs.Heard.{controls, c1_controls, plain_escapes, names94, listed_escape, plain_finals, private_finals}
use Rattle.dispatch.specs.Heard.{dollar_finals, is_secondary, listed_rest, listed_sequence}
use Rattle.dispatch.specs.Heard.{is_listed, plain_ignored, private_ignored, is_ignored, unless_ignored, is_heard, heard}
use Rattle.dispatch.specs.WrapDue.{clears_wrap, with_wrap_policy}
use Rattle.dispatch.specs.Replies.{plain_reply, private_reply, reply, reply_to}
use Rattle.dispatch.specs.Decide.{effect, executed}

-- ---- tests

-- a number that is not in a list is none of the list's
pub other : (ks : List ℕ) (n : ℕ) → member n ks ≡ false → (k : ℕ) → member k ks ≡ true → eqb n k ≡ false
other ks n h k e = ne_eqb n k (λ p. false≢true (sym h ∙ ap (λ (x : ℕ). member x ks) p ∙ e))

-- two or three tests, none of which holds
none_of_two : (s a b : Bool) → (s && (a || (b || false))) ≡ false → ((s && a) ≡ false) × ((s && b) ≡ false)
none_of_two true true b e = absurd (false≢true (sym e))
none_of_two true false true e = absurd (false≢true (sym e))
none_of_two true false false e = (refl, refl)
none_of_two false a b e = (refl, refl)

none-of-three : (a b c : Bool) → (a || (b || c)) ≡ false → (a ≡ false) × (b ≡ false) × (c ≡ false)
none-of-three a b c e = (or_left a (b || c) e, or_left b c (or_right a (b || c) e), or_right b c (or_right a (b || c) e))

-- ---- what is not listed has no function

control-unedited : (c : Core) (b : ℕ) → member b controls ≡ false → controlled c b ≡ unedited c
unfolding controlled
control-unedited c b h = simp (other controls b h)

c1-unedited : (c : Core) (b : ℕ) → member b c1_controls ≡ false → c1_controlled c b ≡ unedited c
unfolding c1_controlled
c1-unedited c b h = simp (other c1_controls b h)

escape-unedited : (c : Core) (first second last : ℕ) → listed_escape first second last ≡ false → escaped c first second last ≡ unedited c
unfolding escaped
escape-unedited c first second last =
    at-number P first 0 plain
    (λ n1. at-number P first 0x20 (λ h. let f = none_of_two (eqb second 0) (eqb last 0x46) (eqb last 0x47) h in rw (f.0, f.1))
    (λ n2. at-number P first 0x23 (λ h. rw h)
    (λ n3. at-number P first 0x28 (λ h. rw ((unnamed h).0, (unnamed h).1, (unnamed h).2))
    (λ n4. at-number P first 0x29 (λ h. rw ((unnamed h).0, (unnamed h).1, (unnamed h).2))
    (λ n5. at-number P first 0x2A (λ h. rw ((unnamed h).0, (unnamed h).1, (unnamed h).2))
    (λ n6. at-number P first 0x2B (λ h. rw ((unnamed h).0, (unnamed h).1, (unnamed h).2))
    (λ n7. at-number P first 0x2D (λ h. rw h)
    (λ n8. at-number P first 0x2E (λ h. rw h)
    (λ n9. at-number P first 0x2F (λ h. rw h)
    (λ n10 h. simp ne_eqb))))))))))
  where
    P : ℕ → Type 0
    P x = listed_escape x second last ≡ false → escaped c x second last ≡ unedited c

    plain : P 0
    plain h = simp (other plain_escapes last h)

    unnamed : names94 second last ≡ false
        → ((eqb second 0 && eqb last 0x42) ≡ false) × ((eqb second 0 && eqb last 0x30) ≡ false) × ((eqb second 0x25 && eqb last 0x35) ≡ false)
    unnamed h = none-of-three (eqb second 0 && eqb last 0x42) (eqb second 0 && eqb last 0x30) (eqb second 0x25 && eqb last 0x35) h

plain-unedited : (c : Core) (q : Params) (last : ℕ) → member last plain_finals ≡ false → plain_sequence c q last ≡ unedited c
plain-unedited c q last h = simp (other plain_finals last h)

private-unedited : (c : Core) (q : Params) (last : ℕ) → member last private_finals ≡ false → private_sequence c q last ≡ unedited c
private-unedited c q last h = simp (other private_finals last h)

rectangle-unedited : (c : Core) (q : Params) (last : ℕ) → member last dollar_finals ≡ false → one_edit c (rectangle_edit c q last) ≡ unedited c
rectangle-unedited c q last h =
    either (λ (e : Edit). one_edit c e ≡ unedited c) (is_taken (area_at c q (cond (eqb last 0x78) 1 0))) (λ _. simp (other dollar_finals last h)) (λ _. refl)

sequence-unedited : (c : Core) (q : Params) (mark first second last : ℕ) → listed_sequence mark first second last ≡ false
    → sequenced c q mark first second last ≡ unedited c
unfolding sequenced
sequence-unedited c q mark first second last =
    go (is_plain mark first second) (is_private mark first second)
    (is_secondary mark first second last) (is_protection mark first second last) (is_soft_reset mark first second last)
    (is_dollar mark first second) (is_extent mark first second last)
  where
    go : (i j s p r x e : Bool)
        → cond i (member last plain_finals) (cond j (member last private_finals) (s || (p || (r || ((x && member last dollar_finals) || e))))) ≡ false
        → cond i (plain_sequence c q last) (cond j (private_sequence c q last) (cond p (select_protection c q) (cond r (unedited (soft_reset c))
        (cond x (one_edit c (rectangle_edit c q last)) (cond e (select_extent c q) (unedited c)))))) ≡ unedited c
    go true j s p r x e h = plain-unedited c q last h
    go false true s p r x e h = private-unedited c q last h
    go false false true p r x e h = absurd (false≢true (sym h))
    go false false false true r x e h = absurd (false≢true (sym h))
    go false false false false true x e h = absurd (false≢true (sym h))
    go false false false false false true e h = rectangle-unedited c q last (or_left (member last dollar_finals) e h)
    go false false false false false false e h = rw h

pub unlisted-unedited : (c : Core) (a : Action) → is_listed a ≡ false → effect c a ≡ unedited c
unlisted-unedited c Nothing h = refl
unlisted-unedited c (Character b) h = absurd (false≢true (sym h))
unlisted-unedited c Substitute h = absurd (false≢true (sym h))
unlisted-unedited c (Control b) h = control-unedited c b h
unlisted-unedited c (C1Control b) h = c1-unedited c b h
unlisted-unedited c (EscapeSequence first second last) h = escape-unedited c first second last h
unlisted-unedited c (ControlSequence f) h = sequence-unedited c c.parser.params f.mark f.first f.second f.last h

-- so what is not ignored does what it does, listed or not
pub heard-effect : (c : Core) (a : Action) → is_ignored c a ≡ false → effect c a ≡ effect c (heard c a)
heard-effect c a e =
    rw e (either (λ (x : Action). effect c a ≡ effect c x) (is_listed a && true) (λ l. refl) (λ l. unlisted-unedited c a (rw and-true at l)))

-- and what is ignored does nothing
pub ignored-unedited : (c : Core) (a : Action) → is_ignored c a ≡ true → unedited c ≡ executed c a
unfolding executed clears_wrap
ignored-unedited c a e = rw (e, and-false)

-- so an action may be taken for nothing first, and then it is not ignored
pub unignored : (c : Core) (a : Action) → is_ignored c (unless_ignored c a) ≡ false
unignored c a = either (λ (x : Action). is_ignored c x ≡ false) (is_ignored c a) (λ e. refl) (λ e. e)

pub executed-unignored : (c : Core) (a : Action) → executed c (unless_ignored c a) ≡ executed c a
unfolding executed clears_wrap
executed-unignored c a = either (λ (x : Action). executed c x ≡ executed c a) (is_ignored c a) (λ e. ignored-unedited c a e) (λ e. refl)

pub executed_settled : (c : Core) (a : Action)
    → executed c a ≡ with_wrap_policy (clears_wrap c (unless_ignored c a)) (effect c (unless_ignored c a))
unfolding executed
executed_settled c a =
    let left = unless_ignored c a in
    sym (executed-unignored c a) ∙ ap (with_wrap_policy (clears_wrap c left)) (sym (heard-effect c left (unignored c a)))

-- ---- what is not heard draws no reply

plain-silent : (c : Core) (q : Params) (last : ℕ) → (member last plain_finals && not (plain_ignored c q last)) ≡ false → plain_reply c q last ≡ None
plain-silent c q last =
    at-number P last 0x63 (λ h. absurd (false≢true (sym h)))
    (λ n. at-number P last 0x6E (λ h. absurd (false≢true (sym h)))
    (λ m h. simp ne_eqb))
  where
    P : ℕ → Type 0
    P x = (member x plain_finals && not (plain_ignored c q x)) ≡ false → plain_reply c q x ≡ None

private-silent : (c : Core) (q : Params) (last : ℕ) → (member last private_finals && not (private_ignored q last)) ≡ false → private_reply c q last ≡ None
private-silent c q last = at-number P last 0x6E (λ h. absurd (false≢true (sym h))) (λ n h. rw (ne_eqb last 0x6E n))
  where
    P : ℕ → Type 0
    P x = (member x private_finals && not (private_ignored q x)) ≡ false → private_reply c q x ≡ None

unheard-silent : (c : Core) (a : Action) → is_heard c a ≡ false → reply c a ≡ None
unheard-silent c Nothing h = refl
unheard-silent c (Character b) h = refl
unheard-silent c Substitute h = refl
unheard-silent c (Control b) h = refl
unheard-silent c (C1Control b) h = at-number P b 0x9A (λ h. absurd (false≢true (sym h))) (λ n h. rw (ne_eqb b 0x9A n)) h
  where
    P : ℕ → Type 0
    P x = is_heard c (C1Control x) ≡ false → reply c (C1Control x) ≡ None
unheard-silent c (EscapeSequence first second last) h = refl
unheard-silent c (ControlSequence f) h =
    go (is_plain f.mark f.first f.second) (is_private f.mark f.first f.second)
    (is_secondary f.mark f.first f.second f.last) (listed_rest f.mark f.first f.second f.last) h
  where
    q : Params
    q = c.parser.params

    go : (i j s t : Bool)
        → (cond i (member f.last plain_finals) (cond j (member f.last private_finals) (s || t))
        && not (cond i (plain_ignored c q f.last) (j && private_ignored q f.last))) ≡ false
        → cond i (plain_reply c q f.last) (cond j (private_reply c q f.last) (cond (s && eqb (param q 0) 0) (Some SecondaryAttributes) None)) ≡ None
    go true j s t h = plain-silent c q f.last h
    go false true s t h = private-silent c q f.last h
    go false false true t h = absurd (false≢true (sym h))
    go false false false t h = refl

pub reply-heard : (c : Core) (a : Action) → reply c a ≡ reply_to c a
unfolding reply_to
reply-heard c a = either (λ (x : Action). reply c a ≡ reply c x) (is_heard c a) (λ e. refl) (λ e. unheard-silent c a e)
