-- A commit's record takes effect exactly under demand 2's conditions.
-- Assumes nothing.
use mathlib.Core.Path.{◌≡◌, refl, sym, ap, ◌∙◌}
use mathlib.Core.Bool.{Bool, true, false, cond, false≢true}
use mathlib.Core.List.{List, []}
use Prim.Native.Nat.{ℕ, ◌≤◌}
use native.Mathlib.Omega.{arith}
use lib.Dec.{leb, ltb, eqb}
use lib.ListN.{length}
use borrow.Author.Tests.{ltb-false, le-leb, le-ltb}
use Rattle.fields.specs.Fields.{over}
use Rattle.rules.specs.declared.Kind.TheVariants.{Commit as COMMIT}
use Rattle.rules.specs.declared.Answer.{Answer}
use Rattle.rules.specs.declared.Answer.TheVariants.{Refused, Done, Epoch, Listed, Found, Collected}
use Rattle.rules.specs.declared.Verdict.{Verdict}
use Rattle.rules.specs.Limits.{limits}
use Rattle.rules.specs.Request.{Request, Asked}
use Rattle.rules.specs.Sound.{sound}
use Rattle.rules.specs.Step.{accepts, alone, answers, effect, reply, size, verdict}
use Rattle.rules.specs.Typed.{verdict_of}
use Rattle.rules.proofs.Commit.{commit-exact}
use Rattle.rules.proofs.Lists.{and_both, and_left}
use Rattle.records.specs.Steps.{decode_step}
use Rattle.verdicts.specs.Verdicts.{encode_verdict}
use Rattle.ledger.specs.declared.Ledger.{Ledger}
use Rattle.ledger.specs.declared.StepAnswer.{StepAnswer}
use Rattle.ledger.specs.Ledger.{lay, view, is_sound}
use Rattle.ledger.specs.Step.{answered_with, judged, refused_with, ruled}
use Rattle.replay.specs.declared.Front.TheVariants.{Full, Judged}
use Rattle.replay.specs.Front.{answer_to, verdict_bytes, Judgement, unchanged, record_step}
use Rattle.replay.specs.Commit.{MayTake, committed, CommitOnBytes, CommitsOnBytes}
use Rattle.replay.proofs.Answers.{encoded_size}

-- the record's step, by what the ledger answers
abbrev written_with : List ℕ → List ℕ → StepAnswer → Judgement
written_with bytes out a =
    record { answer = record { front = Judged (length bytes) (length (verdict_bytes a.verdict)); ledger = a.ledger }; buffer = over (verdict_bytes a.verdict) out }

abbrev stepped_with : Ledger → List ℕ → List ℕ → StepAnswer → Judgement
stepped_with l bytes out a = cond (ltb (length out) (length (verdict_bytes a.verdict))) (unchanged Full l out) (written_with bytes out a)

-- the ledger stays where an answer that fits leaves it
stays_with : (l : Ledger) (bytes out : List ℕ) (a : StepAnswer) → (length (verdict_bytes a.verdict) ≤ length out → a.ledger ≡ l) → (stepped_with l bytes out a).answer.ledger ≡ l
stays_with l bytes out a f = by (ltb (length out) (length (verdict_bytes a.verdict))) refl
  where
    by : (b : Bool) → ltb (length out) (length (verdict_bytes a.verdict)) ≡ b → (cond b (unchanged Full l out) (written_with bytes out a)).answer.ledger ≡ l
    by true e = refl
    by false e = f (ltb-false (length out) (length (verdict_bytes a.verdict)) e)

-- a refusal is not Done
abbrev is_done : Answer → Bool
is_done (Refused n) = false
is_done Done = true
is_done (Epoch n) = false
is_done (Listed n) = false
is_done (Found n) = false
is_done Collected = false

-- Done has seven bytes
done-length : length (encode_verdict Done []) ≡ 7
done-length = encoded_size Done []

module _ (l : Ledger) (t e slot : ℕ) (names : List ℕ) where
  abbrev request : Request
  request = Asked t (COMMIT e slot) names

  abbrev row : ℕ
  row = verdict limits (sound limits) (view l) request

  abbrev taken : StepAnswer
  taken = answered_with (alone Done) (lay (effect request (view l)))

  -- what the ledger answers, by two tests
  abbrev by_tests : Bool → Bool → StepAnswer
  by_tests b c = cond b (cond c taken (refused_with row l)) (refused_with 1 l)

  judged-by : judged l request ≡ by_tests (is_sound l) (eqb row 0)
  unfolding judged ruled answers
  judged-by = refl

  done_tests : (b c : Bool) → (by_tests b c).verdict ≡ verdict_of (alone Done) → (b ≡ true) × (c ≡ true)
  done_tests true true h = (refl, refl)
  done_tests true false h = absurd (false≢true (ap (λ (v : Verdict). is_done v.answer) h))
  done_tests false c h = absurd (false≢true (ap (λ (v : Verdict). is_done v.answer) h))

  -- both tests pass and seven bytes fit: these are the conditions
  may_take : (room : ℕ) → is_sound l ≡ true → eqb row 0 ≡ true → 7 ≤ room → MayTake l t e slot names room
  unfolding accepts reply answers
  may_take room b c h = (
    b,
    (commit-exact limits (view l) t e slot names room).exactly.0
        (and_both (eqb row 0) _ c (ap (λ (x : Bool). leb (size (cond x (alone Done) (alone (Refused row)))) room) c ∙ le-leb 7 room h)),
  )

  row-clear : (room : ℕ) → MayTake l t e slot names room → eqb row 0 ≡ true
  unfolding accepts
  row-clear room m = and_left (eqb row 0) _ ((commit-exact limits (view l) t e slot names room).exactly.1 m.1)

  may_judged : (room : ℕ) → MayTake l t e slot names room → judged l request ≡ taken
  may_judged room m = judged-by ∙ ap (λ (b : Bool). by_tests b (eqb row 0)) m.0 ∙ ap (by_tests true) (row-clear room m)

  done_may : (room : ℕ) → (judged l request).verdict ≡ verdict_of (alone Done) → length (verdict_bytes (judged l request).verdict) ≤ room → MayTake l t e slot names room
  done_may room h fits =
      let p = done_tests (is_sound l) (eqb row 0) (sym (ap (λ (a : StepAnswer). a.verdict) judged-by) ∙ h) in
      may_take room p.0 p.1 (omega (arith, ap (λ (v : Verdict). length (verdict_bytes v)) h, done-length, fits))

  module _ (bytes out : List ℕ) where
    takes-effect : MayTake l t e slot names (length out) → stepped_with l bytes out taken ≡ committed l bytes t e slot names out
    takes-effect m =
        rw (le-ltb (length out) (length (encode_verdict Done [])) (omega (arith, done-length, m.1.fits)))
        (λ i. record { answer = record { front = Judged (length bytes) (done-length i); ledger = lay (effect request (view l)) }; buffer = over (encode_verdict Done []) out })

    -- otherwise the verdict does not fit, or a test fails
    stays : (MayTake l t e slot names (length out) → ⊥) → (b c : Bool) → is_sound l ≡ b → eqb row 0 ≡ c → (stepped_with l bytes out (by_tests b c)).answer.ledger ≡ l
    stays f true true p q = stays_with l bytes out taken (λ h. absurd (f (may_take (length out) p q (omega (arith, done-length, h)))))
    stays f true false p q = stays_with l bytes out (refused_with row l) (λ h. refl)
    stays f false c p q = stays_with l bytes out (refused_with 1 l) (λ h. refl)

module _ (l : Ledger) (bytes out : List ℕ) (t e slot : ℕ) (names : List ℕ) (d : decode_step bytes ≡ Asked t (COMMIT e slot) names) where
  answer-judged : answer_to l bytes ≡ judged l (Asked t (COMMIT e slot) names)
  answer-judged = ap (judged l) d

  stepped-judged : record_step l bytes out ≡ stepped_with l bytes out (judged l (Asked t (COMMIT e slot) names))
  unfolding record_step
  stepped-judged = ap (λ (q : Request). stepped_with l bytes out (judged l q)) d

  -- the claim, of this record
  on_bytes : CommitOnBytes l bytes out t e slot names
  on_bytes = record {
    exactly = (
      λ p. done_may l t e slot names (length out) (sym (ap (λ (a : StepAnswer). a.verdict) answer-judged) ∙ p.0)
          (omega (arith, ap (λ (a : StepAnswer). length (verdict_bytes a.verdict)) answer-judged, p.1)),
      λ m. let h = ap (λ (a : StepAnswer). a.verdict) (answer-judged ∙ may_judged l t e slot names (length out) m) in
          (h, omega (arith, ap (λ (v : Verdict). length (verdict_bytes v)) h, done-length, m.1.fits)),
    );
    takes = λ m. stepped-judged ∙ ap (stepped_with l bytes out) (may_judged l t e slot names (length out) m) ∙ takes-effect l t e slot names bytes out m;
    otherwise = λ f.
        ap (λ (j : Judgement). j.answer.ledger) (stepped-judged ∙ ap (stepped_with l bytes out) (judged-by l t e slot names))
        ∙ stays l t e slot names bytes out f (is_sound l) (eqb (verdict limits (sound limits) (view l) (Asked t (COMMIT e slot) names)) 0) refl refl;
  }

pub commits_on_bytes_lem : CommitsOnBytes
commits_on_bytes_lem l bytes out t e slot names d = on_bytes l bytes out t e slot names d
