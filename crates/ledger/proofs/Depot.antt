-- The tables of cases hold of the ledger's step, since they hold of the rules and the ledger is their layout.
-- Assumes nothing.
use mathlib.Core.Path.{◌≡◌, refl, sym, ap, subst, ◌∙◌}
use mathlib.Core.Bool.{Bool, true, false, ◌&&◌, false≢true}
use mathlib.Core.List.{List, [], ◌∷◌}
use lib.Dec.{leb}
use lib.ListN.{length}
use borrow.Author.Tests.{leb-true}
use Rattle.rules.specs.Step.{longest_verdict}
use Rattle.rules.specs.Limits.{limits}
use Rattle.rules.specs.State.{State, fresh}
use Rattle.rules.specs.Sound.{sound}
use Rattle.rules.specs.Request.{Request, Asked, Unreadable, Ask}
use Rattle.rules.specs.Typed.{request_of, verdict_of}
use Rattle.rules.specs.Depot.{Case, starred, runs, week}
use Rattle.rules.specs.Depot as rules
use Rattle.rules.specs.OutOfOrder.{out_of_order}
use Rattle.rules.proofs.Lists.{and_left, and_right}
use Rattle.rules.proofs.Typed.{list-asks}
use Rattle.rules.proofs.Soundness.{sound-fresh, next-sound}
use Rattle.rules.proofs.Depot.{out_of_order-holds, week-holds}
use Rattle.ledger.specs.declared.Ledger.{Ledger}
use Rattle.ledger.specs.Ledger.{lay}
use Rattle.ledger.specs.Step.{judged}
use Rattle.ledger.specs.Demand3.{kept_after}
use Rattle.ledger.specs.Depot.{typed, after, Holds, OutOfOrderHolds, WeekHolds}
use Rattle.ledger.proofs.Demand3.{verdict-laid, next-laid}

-- a step whose list fits its places asks what it was made from
abbrev fits : Request → Bool
fits (Asked t k l) = leb (length l) limits.names
fits Unreadable = false

pub typed-asks : (q : Request) → fits q ≡ true → request_of (typed q) ≡ q
typed-asks (Asked t k l) e = list-asks t k l (leb-true (length l) limits.names e)
typed-asks Unreadable e = absurd (false≢true e)

unfoldable all_fit : List Case → Bool
all_fit [] = true
all_fit (starred q r ∷ cases) = fits q && all_fit cases
all_fit (runs q ∷ cases) = fits q && all_fit cases

-- what holds of the rules holds of the layout

abbrev roomy : Request → Ask
roomy q = record { request = q; room = longest_verdict }

next-after : (s : State) → sound limits s ≡ true → (q : Request) → fits q ≡ true → after (lay s) q ≡ lay (rules.after s q)
next-after s e q f = ap (λ (x : Request). kept_after (lay s) (roomy x)) (typed-asks q f) ∙ next-laid s e (roomy q)

holds-laid : (s : State) → sound limits s ≡ true → (cases : List Case) → all_fit cases ≡ true → rules.Holds s cases → Holds (lay s) cases
unfolding Holds rules.Holds all_fit
holds-laid s e [] f h = tt
holds-laid s e (starred q r ∷ cases) f h =
    let first = and_left (fits q) (all_fit cases) f in (
      ap (λ (x : Request). (judged (lay s) x).verdict) (typed-asks q first) ∙ verdict-laid s e q ∙ ap verdict_of h.0,
      subst (λ (l : Ledger). Holds l cases) (sym (next-after s e q first))
          (holds-laid (rules.after s q) (next-sound limits (sound limits) s (roomy q) e) cases (and_right (fits q) (all_fit cases) f) h.1),
    )
holds-laid s e (runs q ∷ cases) f h =
    let first = and_left (fits q) (all_fit cases) f in
    subst (λ (l : Ledger). Holds l cases) (sym (next-after s e q first))
    (holds-laid (rules.after s q) (next-sound limits (sound limits) s (roomy q) e) cases (and_right (fits q) (all_fit cases) f) h)

pub week_on_ledger_lem : WeekHolds
unfolding all_fit week
week_on_ledger_lem = holds-laid fresh (sound-fresh limits) week refl week-holds

pub out_of_order_on_ledger_lem : OutOfOrderHolds
unfolding all_fit out_of_order
out_of_order_on_ledger_lem = holds-laid fresh (sound-fresh limits) out_of_order refl out_of_order-holds
