-- Reading and writing undo each other, and all else is refused (the customer's second demand, for records). Numbers fit their fields and bytes are below
-- 256, as the types have it. Assumes nothing.
use Rattle.std.specs.Prelude.{◌≡◌, Bool, true, ◌&&◌, List, ℕ, ◌^◌, ◌≤◌, ltb, length}
use Rattle.rules.specs.declared.Kind.{Kind}
use Rattle.rules.specs.Lists.{all}
use Rattle.rules.specs.Limits.{limits}
use Rattle.rules.specs.Table.{well_formed}
use Rattle.rules.specs.Request.{Asked, Unreadable}
use Rattle.records.specs.declared.Field.{Field}
use Rattle.records.specs.Steps.{fields_of, encode_step, longest_step, decode_step}

-- a field's number fits its width, and a list's numbers fit 64 bits
abbrev pub fits : Field → Bool
fits f = ltb f.number (256 ^ f.width)

abbrev pub all_fit : List Field → List ℕ → Bool
all_fit fs l = all fits fs && all (λ n. ltb n (2 ^ 64)) l

abbrev pub are_bytes : List ℕ → Bool
are_bytes bs = all (λ b. ltb b 256) bs

pub record StepRoundTrip : Type 0 where
  -- reading what was written gives the step
  pub reads_written : (t : ℕ) (k : Kind) (l : List ℕ) → well_formed limits t k l ≡ true → all_fit (fields_of t k) l ≡ true → decode_step (encode_step t k l) ≡ Asked t k l
  -- what was read is well formed, and writing it gives the bytes
  pub writes_read : (bs : List ℕ) (t : ℕ) (k : Kind) (l : List ℕ) → are_bytes bs ≡ true → decode_step bs ≡ Asked t k l
      → (well_formed limits t k l ≡ true) × (all_fit (fields_of t k) l ≡ true) × (encode_step t k l ≡ bs)
  -- bytes that no step is written as are refused
  pub refuses : (bs : List ℕ) → are_bytes bs ≡ true → ((t : ℕ) (k : Kind) (l : List ℕ) → well_formed limits t k l ≡ true → all_fit (fields_of t k) l ≡ true → encode_step t k l ≡ bs → ⊥)
      → decode_step bs ≡ Unreadable
  -- no step's record is longer than a COMMIT's with all the names of a manifest
  pub longest : (t : ℕ) (k : Kind) (l : List ℕ) → well_formed limits t k l ≡ true → length (encode_step t k l) ≤ longest_step
  pub longest_is : longest_step ≡ 551
