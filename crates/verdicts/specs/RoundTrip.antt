-- Reading and writing verdicts undo each other, and all else is refused (the customer's second demand). Numbers fit their fields and bytes are below 256, as
-- the types have it. Assumes nothing.
use Rattle.std.specs.Prelude.{◌≡◌, true, List, ℕ, ◌≤◌, length}
use Rattle.rules.specs.declared.Answer.{Answer}
use Rattle.rules.specs.declared.Answer.TheVariants.{Collected}
use Rattle.rules.specs.Limits.{limits}
use Rattle.rules.specs.Step.{longest_verdict}
use Rattle.records.specs.RoundTrip.{all_fit, are_bytes}
use Rattle.verdicts.specs.Verdicts.{verdict_fields, verdict_formed, encode_verdict, decode_verdict, IsVerdict, NoVerdict}

pub record VerdictRoundTrip : Type 0 where
  pub reads_written : (a : Answer) (l : List ℕ) → verdict_formed a l ≡ true → all_fit (verdict_fields a) l ≡ true → decode_verdict (encode_verdict a l) ≡ IsVerdict a l
  pub writes_read : (bs : List ℕ) (a : Answer) (l : List ℕ) → are_bytes bs ≡ true → decode_verdict bs ≡ IsVerdict a l
      → (verdict_formed a l ≡ true) × (all_fit (verdict_fields a) l ≡ true) × (encode_verdict a l ≡ bs)
  pub refuses : (bs : List ℕ) → are_bytes bs ≡ true → ((a : Answer) (l : List ℕ) → verdict_formed a l ≡ true → all_fit (verdict_fields a) l ≡ true → encode_verdict a l ≡ bs → ⊥)
      → decode_verdict bs ≡ NoVerdict
  -- "the longest verdict becomes 2,058 bytes" (document 02, request 4): none is longer, and every place collected makes one that is as long
  pub longest : (a : Answer) (l : List ℕ) → verdict_formed a l ≡ true → length (encode_verdict a l) ≤ longest_verdict
  pub met : (l : List ℕ) → length l ≡ limits.places → length (encode_verdict Collected l) ≡ longest_verdict
  pub longest_is : longest_verdict ≡ 2058
