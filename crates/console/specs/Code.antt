-- The code that a verdict's bytes show.
-- Assumes nothing.
use Rattle.std.specs.Prelude.{◌≡◌, true, List, ◌++◌, ℕ}
use Rattle.rules.specs.declared.Answer.{Answer}
use Rattle.rules.specs.Step.{code}
use Rattle.verdicts.specs.Verdicts.{verdict_formed, encode_verdict}

-- where some bytes start with the record of a verdict, the number is its code
abbrev pub ShowsCode : List ℕ → ℕ → Type 0
ShowsCode bytes n = (a : Answer) (l rest : List ℕ) → verdict_formed a l ≡ true → bytes ≡ encode_verdict a l ++ rest → n ≡ code a
