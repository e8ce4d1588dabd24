-- What C's calls on a ledger answer and leave in the slices that are lent to be written; a ledger is its numbers (crate ledger_numbers).
-- Assumes nothing.
use Rattle.std.specs.Prelude.{cond, List, [], ◌∷◌, ℕ, ltb, length, Option, Some, None}
use Rattle.fields.specs.Fields.{over}
use Rattle.rules.specs.Limits.{limits}
use Rattle.rules.specs.State.{fresh as fresh_state}
use Rattle.rules.specs.Request.{Request, Unreadable}
use Rattle.rules.specs.Typed.{request_of as step_request}
use Rattle.rules.specs.declared.Kind.{Kind}
use Rattle.ledger.specs.declared.Ledger.{Ledger}
use Rattle.ledger.specs.declared.StepAnswer.{StepAnswer}
use Rattle.ledger.specs.Ledger.{lay, view, is_sound}
use Rattle.ledger.specs.Step.{judged}
use Rattle.ledger_numbers.specs.Numbers.{ledger_size, ledger_numbers, ledger_from, laid_back}
use Rattle.exports.specs.Names.{Call}
use Rattle.exports.specs.Codec.{step_size, verdict_size, kind_of, step_of, verdict_numbers}

-- 0, or 3 where the slice is too short
unfoldable pub fresh : List ℕ → Call
fresh numbers = cond (ltb (length numbers) ledger_size) (record { answer = 3; left = numbers }) (record { answer = 0; left = over (ledger_numbers (lay fresh_state)) numbers })

-- "1 ledger not sound": 0 where it is sound; 3 where the slice is too short
unfoldable pub soundness : List ℕ → ℕ
soundness numbers = cond (ltb (length numbers) ledger_size) 3 (cond (is_sound (ledger_from numbers)) 0 1)

-- the current manifest's number, the writer's epoch, the compactor's
abbrev pub current_numbers : Ledger → List ℕ
current_numbers l = (view l).current.number ∷ (view l).current.writer_epoch ∷ (view l).current.compactor_epoch ∷ []

-- 0 with the three numbers; 1 where the ledger is not sound; 3 where a slice is too short
unfoldable pub current : List ℕ → List ℕ → Call
current ledger numbers =
    cond (ltb (length ledger) ledger_size) (record { answer = 3; left = numbers })
    (cond (ltb (length numbers) 3) (record { answer = 3; left = numbers })
    (cond (is_sound (ledger_from ledger)) (record { answer = 0; left = over (current_numbers (ledger_from ledger)) numbers }) (record { answer = 1; left = numbers })))

-- 1,000,000 for the base, 1,000 for each request of document 02 that has landed, in the order in which they landed, and one for each change after it
abbrev pub version : ℕ
version = 1007000

-- what the numbers of a step ask: those that say no kind are a step that no record can say
abbrev pub request_of : Option Kind → List ℕ → List ℕ → Request
request_of None numbers list = Unreadable
request_of (Some k) numbers list = step_request (step_of numbers list k)

-- the answer of a step, and every element of the three slices that it may write
pub record Stepped : Type 0 where
  pub answer : ℕ
  pub ledger : List ℕ
  pub verdict : List ℕ
  pub objects : List ℕ

module _ (ledger numbers list verdict objects : List ℕ) where
  abbrev pub untouched : Stepped
  untouched = record { answer = 3; ledger = ledger; verdict = verdict; objects = objects }

  abbrev pub stepped : StepAnswer → Stepped
  stepped a = record {
    answer = 0;
    ledger = laid_back a.ledger ledger;
    verdict = over (verdict_numbers a.verdict.answer a.verdict.list.count) verdict;
    objects = over a.verdict.list.objects objects;
  }

  -- 3 where a slice is too short; 0 with the next ledger, the verdict and its list
  unfoldable pub step : Stepped
  step =
      cond (ltb (length ledger) ledger_size) untouched
      (cond (ltb (length numbers) step_size) untouched
      (cond (ltb (length list) limits.names) untouched
      (cond (ltb (length verdict) verdict_size) untouched
      (cond (ltb (length objects) limits.places) untouched
      (stepped (judged (ledger_from ledger) (request_of (kind_of numbers) numbers list)))))))
