-- A route card (document 02, request 2): "a lent row of entries, each a currency and room for a code and an object". Its entries are filled in, in order,
-- each by one look, and the ledger is handed on from look to look. Assumes nothing.
use Rattle.std.specs.Prelude.{cond, List, [], ◌∷◌, ℕ, zero, suc, Result, Ok, Err, ltb, length}
use Rattle.ledger.specs.declared.Ledger.{Ledger}
use Rattle.desk.specs.declared.Looked.{Looked}
use Rattle.desk.specs.declared.SaleError.{SaleError}
use Rattle.desk.specs.declared.SaleError.TheVariants.{Malformed}
use Rattle.desk.specs.declared.Entry.{Entry}
use Rattle.desk.specs.declared.RowFilled.{RowFilled}
use Rattle.desk.specs.Look.{found_code, found_object, look_of}
use Rattle.desk.specs.Sale.{error_number}

-- an entry that is filled in, and the ledger after its look
pub record Filled : Type 0 where
  pub entry : Entry
  pub ledger : Ledger

-- "each look's code and object (0 if refused)": the entry's currency stays
abbrev pub filled_by : Entry → Looked → Filled
filled_by e a = record { entry = record { currency = e.currency; code = found_code a.found; object = found_object a.found }; ledger = a.ledger }

unfoldable pub filled : Ledger → ℕ → ℕ → Entry → Filled
filled l time hold e = filled_by e (look_of l time e.currency hold)

module _ (time hold : ℕ) where
  -- the entries after the first n looks, from the ledger l; "Entries beyond the count stay"
  unfoldable pub entries : Ledger → ℕ → List Entry → List Entry
  entries l zero es = es
  entries l (suc n) [] = []
  entries l (suc n) (e ∷ es) = (filled l time hold e).entry ∷ entries (filled l time hold e).ledger n es

  -- the ledger after the first n looks
  unfoldable pub after : Ledger → ℕ → List Entry → Ledger
  after l zero es = l
  after l (suc n) [] = l
  after l (suc n) (e ∷ es) = after (filled l time hold e).ledger n es

-- "a count above the row's length gives 2 and changes nothing"
unfoldable pub card_of : Ledger → ℕ → ℕ → ℕ → List Entry → List Entry
card_of l time hold count es = cond (ltb (length es) count) es (entries time hold l count es)

unfoldable pub answer_of : Ledger → ℕ → ℕ → ℕ → List Entry → Result Ledger SaleError
answer_of l time hold count es = cond (ltb (length es) count) (Err Malformed) (Ok (after time hold l count es))

-- how many entries a row by value has
abbrev pub row_limit : ℕ
row_limit = 64

-- a row by value
abbrev pub row_by : Result Ledger SaleError → List Entry → Result RowFilled SaleError
row_by (Err e) es = Err e
row_by (Ok l) es = Ok (record { ledger = l; entries = es })

unfoldable pub row_of : Ledger → ℕ → ℕ → ℕ → List Entry → Result RowFilled SaleError
row_of l time hold count es = row_by (answer_of l time hold count es) (card_of l time hold count es)

-- the paper's number for what comes of a card or a row
abbrev pub card_code : {A : Type 0} → Result A SaleError → ℕ
card_code (Ok a) = 0
card_code (Err e) = error_number e
