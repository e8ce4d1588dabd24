-- What the writer answers and leaves of the buffer: "Writing gives 1 for an unsound ledger, else "full", and then writes nothing"; bytes beyond stay.
-- Assumes nothing.
use Rattle.std.specs.Prelude.{cond, List, ℕ, ltb, length, Result, Ok, Err}
use Rattle.fields.specs.Fields.{over}
use Rattle.ledger.specs.declared.Ledger.{Ledger}
use Rattle.ledger.specs.Ledger.{view, is_sound}
use Rattle.image.specs.declared.SaveError.{SaveError}
use Rattle.image.specs.declared.SaveError.TheVariants.{Unsound, Full}
use Rattle.image.specs.Image.{image_of}

pub record Writing : Type 0 where
  pub answer : Result ℕ SaveError
  pub buffer : List ℕ

abbrev pub put : List ℕ → List ℕ → Writing
put bytes buffer =
    cond (ltb (length buffer) (length bytes)) (record { answer = Err Full; buffer = buffer }) (record { answer = Ok (length bytes); buffer = over bytes buffer })

unfoldable pub writing_of : Ledger → List ℕ → Writing
writing_of l buffer = cond (is_sound l) (put (image_of (view l)) buffer) (record { answer = Err Unsound; buffer = buffer })

-- the number for each answer: the bytes written; 1 and "full" as the paper has them, and 0 is no image's length
abbrev pub write_code : Result ℕ SaveError → ℕ
write_code (Ok n) = n
write_code (Err Unsound) = 1
write_code (Err Full) = 0
