-- The tables of cases of crate rules (its specs/Depot.antt and OutOfOrder.antt) through the ledger's own step, each case given as a typed step to the
-- ledger that the one before it left. Proved in proofs/Depot.antt.
-- Assumes nothing.
use Rattle.std.specs.Prelude.{◌≡◌, List, [], ◌∷◌}
use Rattle.rules.specs.declared.Step.{Step}
use Rattle.rules.specs.declared.Kind.TheVariants.{Collect as COLLECT}
use Rattle.rules.specs.State.{fresh}
use Rattle.rules.specs.Request.{Request, Asked, Unreadable}
use Rattle.rules.specs.Step.{longest_verdict}
use Rattle.rules.specs.Typed.{name_list, verdict_of}
use Rattle.rules.specs.Depot.{Case, starred, runs, week}
use Rattle.rules.specs.OutOfOrder.{out_of_order}
use Rattle.ledger.specs.declared.Ledger.{Ledger}
use Rattle.ledger.specs.Ledger.{lay}
use Rattle.ledger.specs.Step.{step_of}
use Rattle.ledger.specs.Demand3.{asked, kept_after}

-- a request as a step in its places; the tables have no other requests
abbrev pub typed : Request → Step
typed (Asked t k l) = record { time = t; kind = k; list = name_list l }
typed Unreadable = record { time = 0; kind = COLLECT; list = name_list [] }

-- there is room for the longest verdict
abbrev pub after : Ledger → Request → Ledger
after l q = kept_after l (asked (typed q) longest_verdict)

unfoldable pub Holds : Ledger → List Case → Type 0
Holds l [] = Unit {0}
Holds l (starred q r ∷ cases) = ((step_of l (typed q)).verdict ≡ verdict_of r) × Holds (after l q) cases
Holds l (runs q ∷ cases) = Holds (after l q) cases

-- the claims
abbrev pub WeekHolds : Type 0
WeekHolds = Holds (lay fresh) week

abbrev pub OutOfOrderHolds : Type 0
OutOfOrderHolds = Holds (lay fresh) out_of_order
