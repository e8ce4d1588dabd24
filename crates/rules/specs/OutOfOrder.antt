-- Parallel writers land out of order (document 02, request 1): cases in order from fresh, as one table under one claim, as in Depot.antt.
-- Assumes nothing.
use Rattle.std.specs.Prelude.{List, [], ◌∷◌, ℕ}
use Rattle.rules.specs.declared.Role.TheVariants.{Writer}
use Rattle.rules.specs.declared.Kind.TheVariants.{Fence as FENCE, Put as PUT, Commit as COMMIT, Collect as COLLECT}
use Rattle.rules.specs.declared.Answer.TheVariants.{Refused, Done}
use Rattle.rules.specs.State.{fresh}
use Rattle.rules.specs.Request.{Request, Asked}
use Rattle.rules.specs.Step.{alone}
use Rattle.rules.specs.Depot.{Case, starred, runs, Holds, collects}

-- the largest number of 64 bits
abbrev pub largest : ℕ
largest = 18446744073709551615

abbrev puts : ℕ → ℕ → Request
puts e n = Asked 1 (PUT Writer e n 978) []

unfoldable pub out_of_order : List Case
out_of_order =
    runs (Asked 1 (FENCE Writer 1) [])
    -- "12 may arrive before 11"
    ∷ starred (puts 1 12) (alone Done)
    ∷ starred (puts 1 11) (alone Done)
    ∷ starred (puts 1 11) (alone (Refused 9))
    -- 12 is collected while 11 is stored: the ledger is sound, 11 is stored still, and all other numbers up to 12 are spent
    ∷ runs (Asked 1 (COMMIT 1 2) (11 ∷ 12 ∷ []))
    ∷ runs (Asked 1 (COMMIT 1 3) (11 ∷ []))
    ∷ starred (Asked 1 COLLECT []) (collects (12 ∷ []))
    ∷ starred (puts 1 11) (alone (Refused 9))
    ∷ starred (puts 1 12) (alone (Refused 10))
    ∷ starred (puts 1 10) (alone (Refused 10))
    -- the largest number spends no smaller one while it is stored
    ∷ starred (puts 1 largest) (alone Done)
    ∷ starred (puts 1 13) (alone Done)
    ∷ runs (Asked 1 (FENCE Writer 4) [])
    ∷ starred (Asked 1 COLLECT []) (collects (13 ∷ largest ∷ []))
    -- "once it is collected, every PUT past 9 gives 10", and a collection of smaller numbers lowers nothing
    ∷ starred (puts 2 11) (alone (Refused 9))
    ∷ starred (puts 2 14) (alone (Refused 10))
    ∷ starred (puts 2 largest) (alone (Refused 10))
    ∷ runs (Asked 1 (COMMIT 2 5) [])
    ∷ starred (Asked 1 COLLECT []) (collects (11 ∷ []))
    ∷ starred (puts 2 14) (alone (Refused 10))
    ∷ []

-- the claim
abbrev pub OutOfOrderHolds : Type 0
OutOfOrderHolds = Holds fresh out_of_order
