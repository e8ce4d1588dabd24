-- Refused steps struck from what is asked of a ledger value: they leave it, so the others find what they found.
-- Assumes nothing.
use mathlib.Core.Path.{◌≡◌, refl, ap, sym, ◌∙◌}
use mathlib.Core.Bool.{Bool, true, false, not, cond, ◌&&◌, false≢true}
use mathlib.Core.List.{List, [], ◌∷◌}
use lib.Dec.{eqb, leb}
use borrow.Author.Tests.{eqb-false}
use Rattle.rules.specs.Request.{Ask}
use Rattle.rules.specs.Struck.{Strikable, others, refusals, within}
use Rattle.rules.proofs.Struck.{after, after-others, each-others, strikable}
use Rattle.ledger.specs.declared.Ledger.{Ledger}
use Rattle.ledger.specs.declared.StepAnswer.{StepAnswer}
use Rattle.ledger.specs.Step.{judged}
use Rattle.ledger.specs.Demand3.{kept_after, ledger_after, verdict_size}
use Rattle.ledger.proofs.AnyLedger.{number-refused}
use Rattle.guarantees.specs.Guarantees.{number_on, refused_on, verdicts_on}

-- refused, or no room: the ledger stays
stays : (l : Ledger) (a : Ask) → refused_on l a ≡ true → kept_after l a ≡ l
stays l a e = by (eqb (number_on l a.request) 0) refl (leb (verdict_size (judged l a.request).verdict) a.room) e
  where
    by : (b : Bool) → eqb (number_on l a.request) 0 ≡ b → (c : Bool) → not (b && c) ≡ true → cond c (judged l a.request).ledger l ≡ l
    by b p false e = refl
    by true p true e = absurd (false≢true e)
    by false p true e = ap (λ (r : StepAnswer). r.ledger) (number-refused l a.request (eqb-false _ 0 p))

ledger_after_lem : (l : Ledger) (asks : List Ask) → ledger_after l asks ≡ after kept_after l asks
unfolding ledger_after after
ledger_after_lem l [] = refl
ledger_after_lem l (a ∷ asks) = ledger_after_lem (kept_after l a) asks

pub verdicts_kept_lem : (l : Ledger) (marks : List Bool) (asks : List Ask) → within marks (refusals kept_after refused_on l asks) ≡ true
    → verdicts_on l (others marks asks) ≡ others marks (verdicts_on l asks)
verdicts_kept_lem l marks asks w = each-others kept_after refused_on stays (λ k a. (judged k a.request).verdict) l marks asks w

pub ledger_kept_lem : (l : Ledger) (marks : List Bool) (asks : List Ask) → within marks (refusals kept_after refused_on l asks) ≡ true
    → ledger_after l (others marks asks) ≡ ledger_after l asks
ledger_kept_lem l marks asks w = ledger_after_lem l (others marks asks) ∙ after-others kept_after refused_on stays l marks asks w ∙ sym (ledger_after_lem l asks)

pub strikable_on_ledger : (l : Ledger) (asks : List Ask) → Strikable kept_after refused_on l asks
strikable_on_ledger = strikable kept_after refused_on stays
