-- Images as C sees them: what each call answers, and every element of the slice that it may write. A ledger is its numbers.
-- Assumes nothing.
use Rattle.std.specs.Prelude.{cond, List, ℕ, ltb, length}
use Rattle.fields.specs.Fields.{over}
use Rattle.image.specs.Reading.{read_of, ledger_beside, read_code}
use Rattle.image.specs.Writing.{Writing, writing_of, write_code}
use Rattle.exports.specs.Names.{Call}
use Rattle.ledger_numbers.specs.Numbers.{ledger_size, ledger_numbers, ledger_from}

abbrev pub written : Writing → Call
written w = record { answer = write_code w.answer; left = w.buffer }

-- 3 where the numbers are too few, then 1 for a ledger that is not sound, then 0 where room is short, else the bytes written
unfoldable pub write_image : List ℕ → List ℕ → Call
write_image ledger out = cond (ltb (length ledger) ledger_size) (record { answer = 3; left = out }) (written (writing_of (ledger_from ledger) out))

abbrev pub read_to : List ℕ → List ℕ → Call
read_to bytes ledger = record { answer = read_code (read_of bytes); left = over (ledger_numbers (ledger_beside bytes)) ledger }

-- 3 where the numbers are too few; else 0, 1 or 2, with the ledger that was read, or the fresh one beside a refusal
unfoldable pub read_image : List ℕ → List ℕ → Call
read_image bytes ledger = cond (ltb (length ledger) ledger_size) (record { answer = 3; left = ledger }) (read_to bytes ledger)
