-- The sale desk as C sees it: what each call answers, and every element of the slices that it may write. A ledger is its numbers.
-- Assumes nothing.
use Rattle.std.specs.Prelude.{cond, List, [], ◌∷◌, ℕ, zero, suc, ◌+◌, ◌*◌, ◌/◌, Option, None, Some, Result, Ok, Err, ltb, length, get_or, set, replicate}
use Rattle.fields.specs.Fields.{over}
use Rattle.sheets.specs.declared.Sheet.{Sheet}
use Rattle.std.specs.Prelude.{Option, Some, None}
use Rattle.sheets.specs.Sheets.{decode_sheet, sheet_writing, sheet_code}
use Rattle.desk.specs.declared.SaleError.{SaleError}
use Rattle.desk.specs.declared.SaleAnswer.{SaleAnswer}
use Rattle.desk.specs.declared.Entry.{Entry}
use Rattle.desk.specs.declared.RowFilled.{RowFilled}
use Rattle.desk.specs.Sale.{sale_code, sale_of}
use Rattle.desk.specs.Card.{card_code, row_of, row_limit}
use Rattle.exports.specs.Names.{Call}
use Rattle.exports.specs.Codec.{written}
use Rattle.ledger_numbers.specs.Numbers.{ledger_from, laid_back, ledger_size}

-- a currency above 65,535 is taken as 65,535, which no sheet has
abbrev pub narrow : ℕ → ℕ
narrow c = cond (ltb 65535 c) 65535 c

-- Sheets: object, currency, numerator, denominator

abbrev pub sheet_numbers : Sheet → List ℕ
sheet_numbers s = s.object ∷ s.currency ∷ s.numerator ∷ s.denominator ∷ []

abbrev pub sheet_told : Option Sheet → List ℕ → Call
sheet_told None numbers = record { answer = sheet_code None; left = numbers }
sheet_told (Some s) numbers = record { answer = sheet_code (Some s); left = over (sheet_numbers s) numbers }

-- 3 where there is no place for the numbers, 2 for no sheet
unfoldable pub read_sheet : List ℕ → List ℕ → Call
read_sheet bytes numbers = cond (ltb (length numbers) 4) (record { answer = 3; left = numbers }) (sheet_told (decode_sheet bytes) numbers)

abbrev pub sheet_of : List ℕ → Sheet
sheet_of v = record { object = get_or v 0 0; currency = narrow (get_or v 1 0); numerator = get_or v 2 0; denominator = get_or v 3 0 }

-- 3 where the numbers are too few, 2 for what no reader takes, 0 where room is short, else 41
unfoldable pub write_sheet : List ℕ → List ℕ → Call
write_sheet numbers buffer = cond (ltb (length numbers) 4) (record { answer = 3; left = buffer }) (written (sheet_writing (sheet_of numbers) buffer))

-- Sales

-- a refused sale charges nothing
abbrev pub charge_in : Result ℕ SaleError → ℕ
charge_in (Ok n) = n
charge_in (Err e) = 0

abbrev pub sale_numbers : Result ℕ SaleError → List ℕ
sale_numbers s = sale_code s ∷ charge_in s ∷ []

pub record SaleCall : Type 0 where
  pub answer : ℕ
  pub ledger : List ℕ
  pub sale : List ℕ

module _ (ledger : List ℕ) (time : ℕ) (sheet : List ℕ) (currency hold fare : ℕ) (sale : List ℕ) where
  abbrev pub unsold : SaleCall
  unsold = record { answer = 3; ledger = ledger; sale = sale }

  abbrev pub told : SaleAnswer → SaleCall
  told a = record { answer = 0; ledger = laid_back a.ledger ledger; sale = over (sale_numbers a.sale) sale }

  -- 3 where a slice is too short; 0 with the next ledger, the code and the charge
  unfoldable pub sell : SaleCall
  sell =
      cond (ltb (length ledger) ledger_size) unsold
      (cond (ltb (length sale) 2) unsold
      (told (sale_of (ledger_from ledger) time sheet (narrow currency) hold fare)))

-- Cards: currency, code, object for each entry

abbrev pub blank : ℕ → Entry
blank c = record { currency = c; code = 0; object = 0 }

-- a row with the currencies of the card's first n entries
unfoldable pub row_from : ℕ → List ℕ → List Entry
row_from zero card = replicate row_limit (blank 0)
row_from (suc n) card = set (row_from n card) n (blank (narrow (get_or card (3 * n) 0)))

-- the codes and objects of the row's first n entries in their places
unfoldable pub put_filled : List Entry → ℕ → List ℕ → List ℕ
put_filled row zero card = card
put_filled row (suc n) card = set (set (put_filled row n card) (3 * n + 1) (get_or row n (blank 0)).code) (3 * n + 2) (get_or row n (blank 0)).object

pub record CardCall : Type 0 where
  pub answer : ℕ
  pub ledger : List ℕ
  pub card : List ℕ

module _ (ledger : List ℕ) (time hold count : ℕ) (card : List ℕ) where
  abbrev pub unfilled : ℕ → CardCall
  unfilled n = record { answer = n; ledger = ledger; card = card }

  abbrev pub filled_in : Result RowFilled SaleError → CardCall
  filled_in (Err e) = unfilled (card_code {A = RowFilled} (Err e))
  filled_in (Ok a) = record { answer = card_code (Ok a); ledger = laid_back a.ledger ledger; card = put_filled a.entries count card }

  -- 3 where the ledger's numbers are too few or the card is too long; 2 where it has fewer entries than the count
  unfoldable pub fill_card : CardCall
  fill_card =
      cond (ltb (length ledger) ledger_size) (unfilled 3)
      (cond (ltb row_limit (length card / 3)) (unfilled 3)
      (cond (ltb (length card / 3) count) (unfilled 2)
      (filled_in (row_of (ledger_from ledger) time hold count (row_from count card)))))
