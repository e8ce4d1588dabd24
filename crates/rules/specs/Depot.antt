-- One week at the depot (document 01): the cases in order from fresh, as one table under one claim. A starred case claims its reply; the others run.
-- Assumes nothing.
use Rattle.std.specs.Prelude.{◌≡◌, List, [], ◌∷◌, ℕ}
use Rattle.rules.specs.declared.Role.TheVariants.{Writer, Compactor}
use Rattle.rules.specs.declared.Kind.TheVariants.{Fence as FENCE, Put as PUT, Commit as COMMIT, Compact as COMPACT, Hold as HOLD, List as LIST, Look as LOOK, Collect as COLLECT}
use Rattle.rules.specs.declared.Answer.TheVariants.{Refused, Done, Epoch, Collected}
use Rattle.rules.specs.Limits.{limits}
use Rattle.rules.specs.State.{State, fresh}
use Rattle.rules.specs.Sound.{sound}
use Rattle.rules.specs.Request.{Request, Asked}
use Rattle.rules.specs.Step.{Reply, alone, reply, next, longest_verdict}

pub data Case : Type 0 where
  -- the request, and the reply that is claimed
  starred : Request → Reply → Case
  runs : Request → Case

-- each case is given the ledger that the one before it left, and there is room for the longest verdict
abbrev pub after : State → Request → State
after s q = next limits (sound limits) s (record { request = q; room = longest_verdict })

unfoldable pub Holds : State → List Case → Type 0
Holds s [] = Unit {0}
Holds s (starred q r ∷ cases) = (reply limits (sound limits) s q ≡ r) × Holds (after s q) cases
Holds s (runs q ∷ cases) = Holds (after s q) cases

abbrev pub collects : List ℕ → Reply
collects l = record { answer = Collected; list = l }

unfoldable pub week : List Case
week =
    starred (Asked 10 (FENCE Writer 1) []) (alone (Epoch 1))
    ∷ runs (Asked 10 (PUT Writer 1 1 978) [])
    ∷ runs (Asked 10 (PUT Writer 1 2 756) [])
    ∷ starred (Asked 11 (COMMIT 1 2) (1 ∷ 2 ∷ [])) (alone Done)
    ∷ starred (Asked 11 (LOOK 985 0) []) (alone (Refused 16))
    ∷ starred (Asked 12 (HOLD 7 2 20) []) (alone Done)
    ∷ starred (Asked 12 (FENCE Writer 2) []) (alone (Refused 6))
    ∷ runs (Asked 12 (FENCE Writer 3) [])
    ∷ starred (Asked 13 (PUT Writer 1 3 978) []) (alone Done)
    ∷ starred (Asked 13 (COMMIT 1 4) (3 ∷ [])) (alone (Refused 5))
    ∷ runs (Asked 14 (PUT Writer 2 4 978) [])
    ∷ starred (Asked 14 COLLECT []) (collects (3 ∷ []))
    ∷ runs (Asked 15 (COMMIT 2 4) (2 ∷ 4 ∷ []))
    ∷ starred (Asked 20 COLLECT []) (collects [])
    ∷ starred (Asked 21 COLLECT []) (collects (1 ∷ []))
    ∷ starred (Asked 21 (LOOK 978 7) []) (alone (Refused 15))
    ∷ starred (Asked 21 (PUT Writer 2 3 978) []) (alone (Refused 10))
    ∷ starred (Asked 20 (LIST 0) []) (alone (Refused 3))
    ∷ runs (Asked 22 (FENCE Compactor 5) [])
    ∷ runs (Asked 22 (PUT Compactor 1 5 978) [])
    ∷ runs (Asked 22 (COMPACT 1 6 5) [])
    ∷ runs (Asked 22 (LIST 0) [])
    ∷ runs (Asked 22 COLLECT [])
    ∷ []

-- the claim
abbrev pub WeekHolds : Type 0
WeekHolds = Holds fresh week
