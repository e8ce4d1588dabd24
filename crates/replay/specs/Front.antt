-- The step on bytes (document 01, "Records and names"): what becomes of the record at the front of a trace, on any ledger and with any room.
-- Assumes nothing.
use Rattle.std.specs.Prelude.{cond, List, ℕ, ltb, length, take}
use Rattle.fields.specs.declared.Next.{Next}
use Rattle.fields.specs.declared.Next.TheVariants.{End, Torn, Record}
use Rattle.fields.specs.Fields.{over, next_of}
use Rattle.rules.specs.declared.Verdict.{Verdict}
use Rattle.rules.specs.Typed.{objects_of}
use Rattle.records.specs.Steps.{decode_step}
use Rattle.verdicts.specs.Verdicts.{encode_verdict}
use Rattle.ledger.specs.declared.Ledger.{Ledger}
use Rattle.ledger.specs.declared.StepAnswer.{StepAnswer}
use Rattle.ledger.specs.Step.{judged}
use Rattle.replay.specs.declared.Front.{Front}
use Rattle.replay.specs.declared.Front.TheVariants.{End as AtEnd, Torn as IsTorn, Full, Judged}
use Rattle.replay.specs.declared.Stepped.{Stepped}

-- a record's verdict and the next ledger; bytes that are no step have 2, or 1 on a ledger that is not sound
abbrev pub answer_to : Ledger → List ℕ → StepAnswer
answer_to l bytes = judged l (decode_step bytes)

-- the bytes of a verdict
abbrev pub verdict_bytes : Verdict → List ℕ
verdict_bytes v = encode_verdict v.answer (objects_of v.list)

abbrev pub answer_bytes : Ledger → List ℕ → List ℕ
answer_bytes l bytes = verdict_bytes (answer_to l bytes).verdict

-- the paper's words as numbers: 0 the end, 1 torn, 2 full, those of a run's endings; 3 a record was judged, with the bytes read and written
abbrev pub front_code : Front → ℕ
front_code AtEnd = 0
front_code IsTorn = 1
front_code Full = 2
front_code (Judged n k) = 3

-- what a step on bytes answers, and the output it leaves
pub record Judgement : Type 0 where
  pub answer : Stepped
  pub buffer : List ℕ

-- neither the ledger nor the output is changed
abbrev pub unchanged : Front → Ledger → List ℕ → Judgement
unchanged f l out = record { answer = record { front = f; ledger = l }; buffer = out }

-- the verdict is laid over the start of the output, and the bytes beyond stay
abbrev pub judged_with : Ledger → List ℕ → List ℕ → Judgement
judged_with l bytes out = record {
  answer = record { front = Judged (length bytes) (length (answer_bytes l bytes)); ledger = (answer_to l bytes).ledger };
  buffer = over (answer_bytes l bytes) out;
}

-- a whole record: ""full" is said exactly when its verdict is longer than the room left"
unfoldable pub record_step : Ledger → List ℕ → List ℕ → Judgement
record_step l bytes out = cond (ltb (length out) (length (answer_bytes l bytes))) (unchanged Full l out) (judged_with l bytes out)

abbrev pub step_at : Next → Ledger → List ℕ → List ℕ → Judgement
step_at End l trace out = unchanged AtEnd l out
step_at Torn l trace out = unchanged IsTorn l out
step_at (Record n) l trace out = record_step l (take n trace) out

unfoldable pub front_step : Ledger → List ℕ → List ℕ → Judgement
front_step l trace out = step_at (next_of trace) l trace out
