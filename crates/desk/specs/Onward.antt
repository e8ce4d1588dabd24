-- The ledgers that the desk gives back are those of LOOKs asked one after another: so demand 3, which is of every sequence of steps, is of the desk's too.
-- Proved in proofs/Onward.antt. Assumes nothing.
use Rattle.std.specs.Prelude.{◌≡◌, ◌⊎◌, List, [], ◌∷◌, ℕ, zero, suc}
use Rattle.rules.specs.Request.{Ask}
use Rattle.ledger.specs.declared.Ledger.{Ledger}
use Rattle.ledger.specs.Demand3.{ledger_after}
use Rattle.desk.specs.declared.Entry.{Entry}
use Rattle.desk.specs.Look.{asked}
use Rattle.desk.specs.Sale.{sale_of}
use Rattle.desk.specs.Card.{after}

-- a LOOK with room for the longest verdict that it has
abbrev pub look_ask : ℕ → ℕ → ℕ → Ask
look_ask time currency hold = record { request = asked time currency hold; room = 18 }

-- the LOOKs of the first n entries
unfoldable pub looks_of : ℕ → ℕ → ℕ → List Entry → List Ask
looks_of time hold zero es = []
looks_of time hold (suc n) [] = []
looks_of time hold (suc n) (e ∷ es) = look_ask time e.currency hold ∷ looks_of time hold n es

pub record Onward : Type 0 where
  pub sale : (l : Ledger) (time : ℕ) (sheet : List ℕ) (currency hold fare : ℕ)
      → ((sale_of l time sheet currency hold fare).ledger ≡ l) ⊎ ((sale_of l time sheet currency hold fare).ledger ≡ ledger_after l (look_ask time currency hold ∷ []))
  pub card : (l : Ledger) (time hold n : ℕ) (es : List Entry) → after time hold l n es ≡ ledger_after l (looks_of time hold n es)
