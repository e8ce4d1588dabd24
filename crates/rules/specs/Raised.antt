-- "A trace that never met an old limit keeps its verdicts" (document 02, request 4): claimed of any limits and any that are raised from them.
-- It is proved in proofs/Raised.antt. Assumes nothing.
use Rattle.std.specs.Prelude.{◌≡◌, Bool, true, false, not, ◌&&◌, ◌||◌, List, [], ◌∷◌, ◌≤◌, eqb, ltb, length}
use Rattle.rules.specs.Limits.{Limits, limits, first_limits}
use Rattle.rules.specs.State.{State, fresh_in}
use Rattle.rules.specs.Sound.{sound}
use Rattle.rules.specs.Request.{Request, Asked, Unreadable, Ask}
use Rattle.rules.specs.Step.{Reply, verdict, reply, next, longest_verdict}
use Rattle.rules.specs.Demand3.{events_from}
use Rattle.rules.specs.Depot.{Case, starred, runs, week}

-- more places and more names, and as many holds
pub record Raised (L M : Limits) : Type 0 where
  pub places : L.places ≤ M.places
  pub names : L.names ≤ M.names
  pub holds : L.holds ≡ M.holds

-- its list is longer than the limit (one beside another kind than COMMIT is refused within any limits)
abbrev pub is_over : Limits → Request → Bool
is_over L (Asked t k l) = ltb L.names (length l)
is_over L Unreadable = false

-- a limit is met: the verdict is 11, or the list is too long
abbrev pub meets : Limits → State → Request → Bool
meets L s q = eqb (verdict L (sound L) s q) 11 || is_over L q

-- no step meets a limit, each given the ledger that the one before it left
unfoldable pub never_met : Limits → State → List Ask → Bool
never_met L s [] = true
never_met L s (a ∷ asks) = not (meets L s a.request) && never_met L (next L (sound L) s a) asks

-- what each step is told
unfoldable pub replies_from : Limits → State → List Ask → List Reply
replies_from L s [] = []
replies_from L s (a ∷ asks) = reply L (sound L) s a.request ∷ replies_from L (next L (sound L) s a) asks

pub record KeepsVerdicts (L M : Limits) : Type 0 where
  -- each verdict with its number and its list is the same, so its bytes are
  pub replies : (asks : List Ask) → never_met L (fresh_in L) asks ≡ true → replies_from M (fresh_in M) asks ≡ replies_from L (fresh_in L) asks
  -- and so is which steps are accepted, with the same rooms: the history is the same
  pub events : (asks : List Ask) → never_met L (fresh_in L) asks ≡ true → events_from M (sound M) (fresh_in M) asks ≡ events_from L (sound L) (fresh_in L) asks

-- what a table of cases asks, with room for the longest verdict
unfoldable pub asks_in : List Case → List Ask
asks_in [] = []
asks_in (starred q r ∷ cases) = record { request = q; room = longest_verdict } ∷ asks_in cases
asks_in (runs q ∷ cases) = record { request = q; room = longest_verdict } ∷ asks_in cases

pub record OldVerdictsKept : Type 0 where
  pub always : (L M : Limits) → Raised L M → KeepsVerdicts L M
  -- at 64 places and 16 names, and at 256 and 64
  pub here : KeepsVerdicts first_limits limits
  -- there are such traces: one week at the depot never met an old limit
  pub week : never_met first_limits (fresh_in first_limits) (asks_in week) ≡ true
