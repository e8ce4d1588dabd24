-- The check of a log as C sees it: what the call answers, and every element of the slice that it may write.
-- Assumes nothing.
use Rattle.std.specs.Prelude.{cond, List, [], ◌∷◌, ℕ, Option, None, Some, Result, Ok, Err}
use Rattle.fields.specs.Fields.{over}
use Rattle.rules.specs.Lists.{none}
use Rattle.rules.specs.State.{fresh}
use Rattle.ledger.specs.Ledger.{lay}
use Rattle.image.specs.declared.LoadError.{LoadError}
use Rattle.image.specs.Reading.{read_of}
use Rattle.log_check.specs.Check.{checked_of}
use Rattle.log_check.specs.Image.{answered_from, answer_code}
use Rattle.exports.specs.Names.{Call}

-- "with a starting image or none for fresh": an image of no bytes is none
abbrev pub found_of : List ℕ → List ℕ → List ℕ → Result (Option ℕ) LoadError
found_of image trace log = cond (none image) (Ok (checked_of (lay fresh) trace log)) (answered_from (read_of image) trace log)

-- where they differ the index stands in the first element, and the elements beyond stay
abbrev pub index_at : Option ℕ → List ℕ → List ℕ
index_at None at = at
index_at (Some i) at = over (i ∷ []) at

abbrev pub left_by : Result (Option ℕ) LoadError → List ℕ → List ℕ
left_by (Ok c) at = index_at c at
left_by (Err e) at = at

-- 3 where no element is lent for the index; else 0 where all agree, 1 or 2 for an image that is refused, 4 where they differ
unfoldable pub check_log : List ℕ → List ℕ → List ℕ → List ℕ → Call
check_log image trace log at =
    cond (none at) (record { answer = 3; left = at }) (record { answer = answer_code (found_of image trace log); left = left_by (found_of image trace log) at })
