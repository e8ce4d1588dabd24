-- A log checked from a starting image (document 02, request 12): "A refused image gives that refusal's number."
-- Assumes nothing.
use Rattle.std.specs.Prelude.{List, ℕ, Option, None, Some, Result, Ok, Err}
use Rattle.image.specs.declared.LoadError.{LoadError}
use Rattle.image.specs.Reading.{error_number}
use Rattle.ledger.specs.declared.Ledger.{Ledger}
use Rattle.log_check.specs.Check.{checked_of}

abbrev pub answered_from : Result Ledger LoadError → List ℕ → List ℕ → Result (Option ℕ) LoadError
answered_from (Ok l) trace log = Ok (checked_of l trace log)
answered_from (Err e) trace log = Err e

-- a number for each answer: 0 where all agree, the image's own where it is refused, 4 where they differ (the paper has none for these)
abbrev pub checked_code : Option ℕ → ℕ
checked_code None = 0
checked_code (Some i) = 4

abbrev pub answer_code : Result (Option ℕ) LoadError → ℕ
answer_code (Ok c) = checked_code c
answer_code (Err e) = error_number e
