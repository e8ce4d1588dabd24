-- What C's calls on store names answer, and what they leave in the slice that is lent to be written.
-- Assumes nothing.
use Rattle.std.specs.Prelude.{cond, List, ℕ, eqb, length, set, Option, Some, None}
use Rattle.store_names.specs.declared.Name.TheVariants.{Manifest, Object}
use Rattle.store_names.specs.declared.Name.{Name}
use Rattle.store_names.specs.Names.{decode, read_code, number_of, Writing, writing, write_code}

-- the answer, and every element of the slice
pub record Call : Type 0 where
  pub answer : ℕ
  pub left : List ℕ

-- a name's number goes to the first place
abbrev pub with_number : Option Name → List ℕ → List ℕ
with_number (Some v) numbers = set numbers 0 (number_of v)
with_number None numbers = numbers

-- 3 where there is no place for the number; else the kind, or 2 for bytes that are no name
unfoldable pub read_name : List ℕ → List ℕ → Call
read_name bytes numbers =
    cond (eqb (length numbers) 0)
    (record { answer = 3; left = numbers })
    (record { answer = read_code (decode bytes); left = with_number (decode bytes) numbers })

abbrev pub written : Writing → Call
written w = record { answer = write_code w.answer; left = w.buffer }

-- kind 0 is a manifest, 1 an object; another is malformed
unfoldable pub write_name : ℕ → ℕ → List ℕ → Call
write_name kind value buffer =
    cond (eqb kind 0)
    (written (writing (Manifest value) buffer))
    (cond (eqb kind 1)
    (written (writing (Object value) buffer))
    (record { answer = 2; left = buffer }))
