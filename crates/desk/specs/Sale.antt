-- A sale (document 02, request 2): "A malformed sheet or fare gives 2 first; then a refused look stops the sale with the look's number; then 30."
-- Assumes nothing.
use Rattle.std.specs.Prelude.{Bool, cond, ◌&&◌, List, ℕ, Result, Ok, Err, ltb, eqb}
use Rattle.ledger.specs.declared.Ledger.{Ledger}
use Rattle.sheets.specs.declared.Sheet.{Sheet}
use Rattle.std.specs.Prelude.{Option, Some, None}
use Rattle.sheets.specs.Sheets.{decode_sheet}
use Rattle.desk.specs.declared.Looked.{Looked}
use Rattle.desk.specs.declared.SaleError.{SaleError}
use Rattle.desk.specs.declared.SaleError.TheVariants.{LookRefused, Malformed, OtherSheet}
use Rattle.desk.specs.declared.SaleAnswer.{SaleAnswer}
use Rattle.desk.specs.Charge.{largest_fare, charge_of}
use Rattle.desk.specs.Look.{look_of}

-- the paper's number for each refusal, and for each sale
abbrev pub error_number : SaleError → ℕ
error_number (LookRefused n) = n
error_number Malformed = 2
error_number OtherSheet = 30

abbrev pub sale_code : Result ℕ SaleError → ℕ
sale_code (Ok n) = 0
sale_code (Err e) = error_number e

-- "A refused sale charges nothing and leaves the ledger unchanged"
abbrev pub refused_sale : SaleError → Ledger → SaleAnswer
refused_sale e l = record { sale = Err e; ledger = l }

-- "a sheet whose object or currency differs": from the object that the look found and the currency that was asked
abbrev pub is_in_force : Sheet → ℕ → ℕ → Bool
is_in_force s object currency = eqb s.object object && eqb s.currency currency

-- the sale by a sheet and what a look found
abbrev pub sale_by : Sheet → ℕ → ℕ → Result ℕ ℕ → Result ℕ SaleError
sale_by s currency fare (Ok object) = cond (is_in_force s object currency) (Ok (charge_of fare s.numerator s.denominator)) (Err OtherSheet)
sale_by s currency fare (Err n) = Err (LookRefused n)

-- "otherwise the ledger after the look comes back"
abbrev pub kept_by : Ledger → Ledger → Result ℕ SaleError → SaleAnswer
kept_by l next (Ok n) = record { sale = Ok n; ledger = next }
kept_by l next (Err e) = refused_sale e l

-- the sale by a sheet and a look
abbrev pub sold_by : Ledger → Sheet → ℕ → ℕ → Looked → SaleAnswer
sold_by l s currency fare a = kept_by l a.ledger (sale_by s currency fare a.found)

-- "It makes one LOOK at that time": with the currency and the hold that were asked
abbrev pub sale_with : Ledger → ℕ → ℕ → ℕ → ℕ → Option Sheet → SaleAnswer
sale_with l time currency hold fare None = refused_sale Malformed l
sale_with l time currency hold fare (Some s) = cond (ltb largest_fare fare) (refused_sale Malformed l) (sold_by l s currency fare (look_of l time currency hold))

unfoldable pub sale_of : Ledger → ℕ → List ℕ → ℕ → ℕ → ℕ → SaleAnswer
sale_of l time sheet currency hold fare = sale_with l time currency hold fare (decode_sheet sheet)
