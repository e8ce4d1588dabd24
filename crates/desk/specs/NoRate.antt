-- "an absent rate shall stop the sale" (the customer's first clause): no rate in force in that currency, or no live hold, and no sale is charged. Claimed of any
-- ledger value by what its step promises, and of every ledger that a caller keeps from fresh on by the history. Proved in proofs/NoRate.antt.
-- Assumes nothing.
use Rattle.std.specs.Prelude.{◌≡◌, true, false, List, ℕ, Ok, Err, ◌≤◌, ◌<◌}
use Rattle.rules.specs.declared.Answer.TheVariants.{Found}
use Rattle.rules.specs.Lists.{◌∈◌, none, maximum}
use Rattle.rules.specs.Limits.{limits}
use Rattle.rules.specs.State.{fresh}
use Rattle.rules.specs.Request.{Ask}
use Rattle.rules.specs.Step.{code as code_of}
use Rattle.rules.specs.Demand3.{history_of}
use Rattle.rules.specs.Rates.{held_at, rates_at, look_at}
use Rattle.ledger.specs.declared.Ledger.{Ledger}
use Rattle.ledger.specs.Ledger.{lay}
use Rattle.ledger.specs.Step.{judged}
use Rattle.ledger.specs.Demand3.{ledger_after}
use Rattle.sheets.specs.declared.Sheet.{Sheet}
use Rattle.std.specs.Prelude.{Option, Some, None}
use Rattle.sheets.specs.Sheets.{decode_sheet}
use Rattle.desk.specs.declared.SaleError.{SaleError}
use Rattle.desk.specs.Charge.{largest_fare, charge_of, Smallest}
use Rattle.desk.specs.Look.{asked, object_of, found_code, found_object, look_of}
use Rattle.desk.specs.Sale.{error_number, sale_of}

module _ (l : Ledger) (time : ℕ) (sheet : List ℕ) (currency hold fare : ℕ) where
  -- what a sale that charged n went by
  pub record WentBy (n : ℕ) : Type 0 where
    pub rate : Sheet
    pub read : decode_sheet sheet ≡ Some rate
    pub fares : fare ≤ largest_fare
    -- the sheet is that of the asked currency, and the one that the look found
    pub same : rate.currency ≡ currency
    pub found : (judged l (asked time currency hold)).verdict.answer ≡ Found rate.object
    pub charge : Smallest fare rate.numerator rate.denominator n
    -- "otherwise the ledger after the look comes back"
    pub next : (sale_of l time sheet currency hold fare).ledger ≡ (judged l (asked time currency hold)).ledger

  -- of any ledger value
  pub record SaleExact : Type 0 where
    pub charged : (n : ℕ) → (sale_of l time sheet currency hold fare).sale ≡ Ok n → WentBy n
    -- "A refused sale charges nothing and leaves the ledger unchanged"
    pub refused : (e : SaleError) → (sale_of l time sheet currency hold fare).sale ≡ Err e → (0 < error_number e) × ((sale_of l time sheet currency hold fare).ledger ≡ l)

-- of every ledger from fresh on, by the history: what a look, so an entry of a card, comes to
pub record LookedExact (asks : List Ask) (time currency hold : ℕ) : Type 0 where
  pub code : found_code (look_of (ledger_after (lay fresh) asks) time currency hold).found ≡ code_of (look_at limits time (history_of asks) currency hold)
  pub object : found_object (look_of (ledger_after (lay fresh) asks) time currency hold).found ≡ object_of (look_at limits time (history_of asks) currency hold)

-- and what a sale is charged by
module _ (asks : List Ask) (time : ℕ) (sheet : List ℕ) (currency hold fare : ℕ) where
  abbrev pub ChargesNothing : Type 0
  ChargesNothing = (n : ℕ) → (sale_of (ledger_after (lay fresh) asks) time sheet currency hold fare).sale ≡ Ok n → ⊥

  pub record NoRateNoCharge : Type 0 where
    -- by the sheet that a LOOK finds, by the history, a sale is charged
    pub sells : (s : Sheet) → decode_sheet sheet ≡ Some s → fare ≤ largest_fare → s.currency ≡ currency → look_at limits time (history_of asks) currency hold ≡ Found s.object
        → (sale_of (ledger_after (lay fresh) asks) time sheet currency hold fare).sale ≡ Ok (charge_of fare s.numerator s.denominator)
    -- a sheet that a sale went by is a rate in force, the highest of that currency
    pub in_force : (n : ℕ) (w : WentBy (ledger_after (lay fresh) asks) time sheet currency hold fare n)
        → (w.rate.object ∈ rates_at time (history_of asks) currency hold) × (w.rate.object ≡ maximum (rates_at time (history_of asks) currency hold))
    pub no_rate : none (rates_at time (history_of asks) currency hold) ≡ true → ChargesNothing
    pub no_hold : 0 < hold → held_at time (history_of asks) hold ≡ false → ChargesNothing
