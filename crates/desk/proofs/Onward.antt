-- The ledgers that the desk gives back are those of LOOKs asked one after another: a LOOK's verdict has at most 18 bytes. Assumes nothing.
use mathlib.Core.Path.{◌≡◌, refl, ap, ◌∙◌}
use mathlib.Core.Logic.{◌⊎◌, inl, inr}
use mathlib.Core.Bool.{true}
use mathlib.Core.List.{List, [], ◌∷◌}
use Rattle.std.specs.Prelude.{Result, Ok, Err}
use Prim.Native.Nat.{ℕ, zero, suc}
use lib.Dec.{leb}
use Rattle.ledger.specs.declared.Ledger.{Ledger}
use Rattle.ledger.specs.declared.StepAnswer.{StepAnswer}
use Rattle.ledger.specs.Step.{judged}
use Rattle.ledger.specs.Look.{Outcome, finds, refuses}
use Rattle.ledger.specs.Demand3.{verdict_size, kept_after, ledger_after}
use Rattle.ledger.proofs.Looking.{look_outcome}
use Rattle.desk.specs.declared.Entry.{Entry}
use Rattle.desk.specs.declared.SaleError.{SaleError}
use Rattle.desk.specs.Look.{asked, look_of}
use Rattle.desk.specs.Sale.{sale_of}
use Rattle.desk.specs.Card.{filled, after}
use Rattle.desk.specs.Onward.{look_ask, looks_of, Onward}
use Rattle.desk.proofs.NoRate.{sale-exact}

fits : (l : Ledger) (a : StepAnswer) → Outcome l a → leb (verdict_size a.verdict) 18 ≡ true
fits l a (finds n e) = rw e
fits l a (refuses n some e) = rw e

-- the ledger after a LOOK is the one that a caller with that room keeps
look-kept : (l : Ledger) (time currency hold : ℕ) → (judged l (asked time currency hold)).ledger ≡ kept_after l (look_ask time currency hold)
look-kept l time currency hold = rw (fits l (judged l (asked time currency hold)) (look_outcome l time currency hold))

sale-onward : (l : Ledger) (time : ℕ) (sheet : List ℕ) (currency hold fare : ℕ)
    → ((sale_of l time sheet currency hold fare).ledger ≡ l) ⊎ ((sale_of l time sheet currency hold fare).ledger ≡ ledger_after l (look_ask time currency hold ∷ []))
unfolding ledger_after
sale-onward l time sheet currency hold fare = step (sale_of l time sheet currency hold fare).sale refl
  where
    step : (s : Result ℕ SaleError) → (sale_of l time sheet currency hold fare).sale ≡ s → ((sale_of l time sheet currency hold fare).ledger ≡ l) ⊎ ((sale_of l time sheet currency hold fare).ledger ≡ kept_after l (look_ask time currency hold))
    step (Ok n) e = inr (((sale-exact l time sheet currency hold fare).charged n e).next ∙ look-kept l time currency hold)
    step (Err f) e = inl ((sale-exact l time sheet currency hold fare).refused f e).1

card-onward : (l : Ledger) (time hold n : ℕ) (es : List Entry) → after time hold l n es ≡ ledger_after l (looks_of time hold n es)
unfolding after looks_of ledger_after filled look_of
card-onward l time hold zero es = refl
card-onward l time hold (suc n) [] = refl
card-onward l time hold (suc n) (e ∷ es) =
    ap (λ (m : Ledger). after time hold m n es) (look-kept l time e.currency hold) ∙ card-onward (kept_after l (look_ask time e.currency hold)) time hold n es

pub onward : Onward
onward = record { sale = sale-onward; card = card-onward }
