-- The paper's number for what a reader and a writer answer, and what a writer leaves of the buffer (document 01): "Writers answer 2 for what no reader takes, otherwise "full" where room is short, and
-- write nothing either way; bytes beyond stay."
-- Assumes nothing.
use Rattle.std.specs.Prelude.{Option, Some, None, Result, Ok, Err, Bool, cond, List, ℕ, ltb, length}
use Rattle.fields.specs.declared.WriteError.{WriteError}
use Rattle.fields.specs.declared.WriteError.TheVariants.{Malformed, Full}
use Rattle.fields.specs.Fields.{over}
use Rattle.rules.specs.declared.Step.{Step}
use Rattle.rules.specs.Typed.{request_of, can_say, names_of}
use Rattle.records.specs.Steps.{encode_step}

-- "answer 2 for a malformed input", else 0
abbrev pub reading_code : {A : Type 0} → Option A → ℕ
reading_code (Some x) = 0
reading_code None = 2

-- how many bytes were written; 2 for what no reader takes; 0, which is no record's length, where room is short
abbrev pub write_code : Result ℕ WriteError → ℕ
write_code (Ok n) = n
write_code (Err Malformed) = 2
write_code (Err Full) = 0

pub record Writing : Type 0 where
  pub answer : Result ℕ WriteError
  pub buffer : List ℕ

-- of a record that a reader takes or not, with its bytes
abbrev pub writing : Bool → List ℕ → List ℕ → Writing
writing taken bytes buffer =
    cond taken
    (cond (ltb (length buffer) (length bytes)) (record { answer = Err Full; buffer = buffer }) (record { answer = Ok (length bytes); buffer = over bytes buffer }))
    (record { answer = Err Malformed; buffer = buffer })

abbrev pub step_writing : Step → List ℕ → Writing
step_writing p buffer = writing (can_say (request_of p)) (encode_step p.time p.kind (names_of p.list)) buffer
