-- The one LOOK of a sale or of an entry of a card, by what the ledger's step promises. Assumes nothing.
use Rattle.std.specs.Prelude.{[], ℕ, Result, Ok, Err}
use Rattle.rules.specs.declared.Kind.TheVariants.{Look as LOOK}
use Rattle.rules.specs.declared.Answer.{Answer}
use Rattle.rules.specs.declared.Answer.TheVariants.{Refused, Done, Epoch, Listed, Found, Collected}
use Rattle.rules.specs.Request.{Request, Asked}
use Rattle.ledger.specs.declared.Ledger.{Ledger}
use Rattle.ledger.specs.declared.StepAnswer.{StepAnswer}
use Rattle.ledger.specs.Step.{judged}
use Rattle.desk.specs.declared.Looked.{Looked}

-- the object that an answer gives; "0 if refused"
abbrev pub object_of : Answer → ℕ
object_of (Refused n) = 0
object_of Done = 0
object_of (Epoch e) = 0
object_of (Listed m) = 0
object_of (Found n) = n
object_of Collected = 0

-- the object that an answer gives, or the number that it is refused with
abbrev pub found_in : Answer → Result ℕ ℕ
found_in (Refused n) = Err n
found_in Done = Ok 0
found_in (Epoch e) = Ok 0
found_in (Listed m) = Ok 0
found_in (Found n) = Ok n
found_in Collected = Ok 0

-- the paper's number for what a look found, and the object; "0 if refused"
abbrev pub found_code : Result ℕ ℕ → ℕ
found_code (Ok n) = 0
found_code (Err n) = n

abbrev pub found_object : Result ℕ ℕ → ℕ
found_object (Ok n) = n
found_object (Err n) = 0

abbrev pub asked : ℕ → ℕ → ℕ → Request
asked time currency hold = Asked time (LOOK currency hold) []

abbrev pub looked_by : StepAnswer → Looked
looked_by a = record { found = found_in a.verdict.answer; ledger = a.ledger }

unfoldable pub look_of : Ledger → ℕ → ℕ → ℕ → Looked
look_of l time currency hold = looked_by (judged l (asked time currency hold))
