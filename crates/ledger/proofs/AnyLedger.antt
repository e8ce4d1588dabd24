-- The verdict on any ledger value is the smallest number that applies there; a refusal leaves the ledger; a sound one is told what the rules say.
-- Assumes nothing.
use mathlib.Core.Path.{◌≡◌, refl, sym, ap, subst, ◌∙◌}
use mathlib.Core.Logic.{◌⊎◌, inl, inr}
use mathlib.Core.Bool.{Bool, true, false, cond}
use mathlib.Core.List.{List}
use Prim.Native.Nat.{ℕ}
use native.Mathlib.Omega.{arith}
use lib.Dec.{eqb}
use borrow.Author.Tests.{eqb-true, eqb-false}
use Rattle.rules.specs.declared.Answer.TheVariants.{Refused}
use Rattle.rules.specs.Limits.{limits}
use Rattle.rules.specs.Request.{Request, Asked, Unreadable}
use Rattle.rules.specs.Sound.{sound}
use Rattle.rules.specs.State.{State}
use Rattle.rules.specs.Step.{alone, code, effect, granted, reply, rows_of, verdict}
use Rattle.rules.specs.Table.{Row, first_of}
use Rattle.rules.specs.Typed.{verdict_of}
use Rattle.rules.specs.Verdict.{Smallest}
use Rattle.rules.proofs.Table.{granted-code, verdict-smallest}
use Rattle.ledger.specs.declared.Ledger.{Ledger}
use Rattle.ledger.specs.declared.StepAnswer.{StepAnswer}
use Rattle.ledger.specs.Ledger.{lay, view, is_sound}
use Rattle.ledger.specs.Step.{refused_with, answered_with, ruled_by, ruled, judged}
use Rattle.ledger.proofs.SoundLaw.{sound_law}

-- the number that a request is given, and the rows that can apply to it: as the page of guarantees has them
abbrev pub number_on : Ledger → Request → ℕ
number_on l q = code (judged l q).verdict.answer

abbrev rows_on : Ledger → Request → List Row
rows_on l q = rows_of limits (λ s. is_sound l) (view l) q

-- row 1's test counts only by what it says of this ledger
same_test : (test other : State → Bool) (s : State) (q : Request) → test s ≡ other s → verdict limits test s q ≡ verdict limits other s q
unfolding verdict first_of
same_test test other s (Asked t k l) e = rw e
same_test test other s Unreadable e = rw e

first-unsound : (test : State → Bool) (s : State) (q : Request) → test s ≡ false → verdict limits test s q ≡ 1
unfolding verdict first_of
first-unsound test s (Asked t k l) e = rw e
first-unsound test s Unreadable e = rw e

module _ (l : Ledger) (q : Request) where
  abbrev row : ℕ
  row = verdict limits (sound limits) (view l) q

  judged-sound : is_sound l ≡ true → judged l q ≡ ruled_by row q l
  unfolding judged ruled
  judged-sound e = rw e

  -- a sound ledger is told what the rules say of its state
  pub verdict-sound : is_sound l ≡ true → (judged l q).verdict ≡ verdict_of (reply limits (sound limits) (view l) q)
  unfolding reply
  verdict-sound e = ap (λ (a : StepAnswer). a.verdict) (judged-sound e) ∙ by (eqb row 0)
    where
      by : (b : Bool) → (cond b (answered_with (granted q (view l)) (lay (effect q (view l)))) (refused_with row l)).verdict ≡ verdict_of (cond b (granted q (view l)) (alone (Refused row)))
      by true = refl
      by false = refl

  pub judged-unsound : is_sound l ≡ false → judged l q ≡ refused_with 1 l
  unfolding judged
  judged-unsound e = rw e

  ruled-code : (b : Bool) → eqb row 0 ≡ b → code (cond b (answered_with (granted q (view l)) (lay (effect q (view l)))) (refused_with row l)).verdict.answer ≡ row
  ruled-code true e = granted-code q (view l) ∙ sym (eqb-true row 0 e)
  ruled-code false e = refl

  pub number-sound : is_sound l ≡ true → number_on l q ≡ row
  number-sound e = ap (λ (a : StepAnswer). code a.verdict.answer) (judged-sound e) ∙ ruled-code (eqb row 0) refl

  number-unsound : is_sound l ≡ false → number_on l q ≡ 1
  number-unsound e = ap (λ (a : StepAnswer). code a.verdict.answer) (judged-unsound e)

  -- what is accepted was asked of a sound ledger
  pub sound-accepted : number_on l q ≡ 0 → is_sound l ≡ true
  sound-accepted z = by (is_sound l) refl
    where
      by : (b : Bool) → is_sound l ≡ b → b ≡ true
      by true e = refl
      by false e = absurd (omega (arith, z, number-unsound e))

  number_is : (b : Bool) → is_sound l ≡ b → verdict limits (λ s. is_sound l) (view l) q ≡ number_on l q
  number_is true e = same_test (λ s. is_sound l) (sound limits) (view l) q (e ∙ sym (sound_law.state l e)) ∙ sym (number-sound e)
  number_is false e = first-unsound (λ s. is_sound l) (view l) q e ∙ sym (number-unsound e)

  pub one_number_lem : Smallest (rows_on l q) (number_on l q)
  one_number_lem = subst (λ (n : ℕ). Smallest (rows_on l q) n) (number_is (is_sound l) refl) (verdict-smallest limits (λ s. is_sound l) (view l) q)

  -- what is answered, by its number
  abbrev Answered : ℕ → StepAnswer → Type 0
  Answered n a = ((n ≡ 0) × (a ≡ answered_with (granted q (view l)) (lay (effect q (view l))))) ⊎ ((n ≡ 0 → ⊥) × (a ≡ refused_with n l))

  ruled-answered : (n : ℕ) (b : Bool) → eqb n 0 ≡ b → Answered n (cond b (answered_with (granted q (view l)) (lay (effect q (view l)))) (refused_with n l))
  ruled-answered n true e = inl (eqb-true n 0 e, refl)
  ruled-answered n false e = inr (eqb-false n 0 e, refl)

  moved : {n m : ℕ} {a b : StepAnswer} → n ≡ m → a ≡ b → Answered n a → Answered m b
  moved {m = m} {a = a} e f w = subst (Answered m) f (subst (λ (k : ℕ). Answered k a) e w)

  by-soundness : (b : Bool) → is_sound l ≡ b → Answered (number_on l q) (judged l q)
  by-soundness true e = moved (sym (number-sound e)) (sym (judged-sound e)) (ruled-answered row (eqb row 0) refl)
  by-soundness false e = moved (sym (number-unsound e)) (sym (judged-unsound e)) (inr (λ z. omega (arith, z), refl))

  pub number-refused : (number_on l q ≡ 0 → ⊥) → judged l q ≡ refused_with (number_on l q) l
  number-refused f = go (by-soundness (is_sound l) refl)
    where
      go : Answered (number_on l q) (judged l q) → judged l q ≡ refused_with (number_on l q) l
      go (inl p) = absurd (f p.0)
      go (inr p) = p.1

  pub number-accepted : number_on l q ≡ 0 → judged l q ≡ answered_with (granted q (view l)) (lay (effect q (view l)))
  number-accepted z = go (by-soundness (is_sound l) refl)
    where
      go : Answered (number_on l q) (judged l q) → judged l q ≡ answered_with (granted q (view l)) (lay (effect q (view l)))
      go (inl p) = p.1
      go (inr p) = absurd (p.0 z)

-- bytes that are no step
unreadable_two : (l : Ledger) → is_sound l ≡ true → verdict limits (sound limits) (view l) Unreadable ≡ 2
unfolding verdict first_of
unreadable_two l e = rw (sound_law.state l e)

pub no_step_lem : (l : Ledger) → ((is_sound l ≡ true) × (number_on l Unreadable ≡ 2)) ⊎ ((is_sound l ≡ false) × (number_on l Unreadable ≡ 1))
no_step_lem l = go (is_sound l) refl
  where
    go : (b : Bool) → is_sound l ≡ b → ((is_sound l ≡ true) × (number_on l Unreadable ≡ 2)) ⊎ ((is_sound l ≡ false) × (number_on l Unreadable ≡ 1))
    go true e = inl (e, number-sound l Unreadable e ∙ unreadable_two l e)
    go false e = inr (e, number-unsound l Unreadable e)

pub no_step-refused : (l : Ledger) → number_on l Unreadable ≡ 0 → ⊥
no_step-refused l z = go (no_step_lem l)
  where
    go : ((is_sound l ≡ true) × (number_on l Unreadable ≡ 2)) ⊎ ((is_sound l ≡ false) × (number_on l Unreadable ≡ 1)) → ⊥
    go (inl p) = omega (arith, z, p.1)
    go (inr p) = omega (arith, z, p.1)
