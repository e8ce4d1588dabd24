-- Demand 3 (document 01): one claim about every sequence of steps. It is proved in proofs/Demand3.antt.
-- An ask is a step or bytes that are none, with the room for its verdict; each is given the ledger that the one before it left. The history is fed
-- what was asked and whether it was accepted, and never sees the ledger. `test` is row 1's test: the claim holds whatever it is.
-- Assumes nothing.
use Rattle.std.specs.Prelude.{◌≡◌, ◌⊎◌, Bool, true, List, [], ◌∷◌, ℕ, ◌≤◌, length}
use Rattle.rules.specs.declared.Kind.TheVariants.{Collect as COLLECT}
use Rattle.rules.specs.declared.Answer.TheVariants.{Collected}
use Rattle.rules.specs.Lists.{has, rising_above}
use Rattle.rules.specs.Limits.{Limits, limits}
use Rattle.rules.specs.State.{State, fresh_in, fresh}
use Rattle.rules.specs.Words.{stored, listed}
use Rattle.rules.specs.Sound.{sound}
use Rattle.rules.specs.Request.{Asked, Ask}
use Rattle.rules.specs.Step.{reply, accepts, next, longest_verdict}
use Rattle.rules.specs.History.{History, Event, at_first, current_number, makers, stored_at, listed_at, dead_at, history_from}
use Rattle.rules.specs.Agreement.{Agrees}

module _ (L : Limits) (test : State → Bool) where
  -- the ledger that the asks leave, from a ledger on
  unfoldable pub ledger_from : State → List Ask → State
  ledger_from s [] = s
  ledger_from s (a ∷ asks) = ledger_from (next L test s a) asks

  -- each step as asked and whether it was accepted: a verdict without room counts as not accepted
  unfoldable pub events_from : State → List Ask → List Event
  events_from s [] = []
  events_from s (a ∷ asks) = record { request = a.request; accepted = accepts L test s a } ∷ events_from (next L test s a) asks

  -- What is claimed of a ledger and a history
  pub record Exact (s : State) (h : History) : Type 0 where
    pub clock : s.clock ≡ h.time
    pub number : s.current.number ≡ current_number h
    -- a collection asked next, at any time and with any room, and accepted, answers a strictly rising list:
    -- exactly the objects that the history calls dead at its time
    pub collects : (t : ℕ) (l : List ℕ) (room : ℕ) → accepts L test s (record { request = Asked t COLLECT l; room = room }) ≡ true
        → ((reply L test s (Asked t COLLECT l)).answer ≡ Collected)
        × (rising_above 0 (reply L test s (Asked t COLLECT l)).list ≡ true)
        × ((n : ℕ) → has n (reply L test s (Asked t COLLECT l)).list ≡ dead_at t h n)
    -- at the clock's time and at every later one, what the current manifest or a live hold's manifest names, by the history or in the ledger,
    -- is stored, by the history and in the ledger
    pub keeps : (t : ℕ) → s.clock ≤ t → (n : ℕ) → (listed_at t h n ≡ true) ⊎ (listed t s n ≡ true) → (stored_at h n ≡ true) × (stored s n ≡ true)

  -- from any ledger and history that agree, also in the middle of things
  abbrev pub Demand3From : Type 0
  Demand3From = (s : State) (h : History) → Agrees L s h → (asks : List Ask) → Exact (ledger_from s asks) (history_from h (events_from s asks))

  -- from the fresh ledger
  abbrev pub Demand3 : Type 0
  Demand3 = (asks : List Ask) → Exact (ledger_from (fresh_in L) asks) (history_from at_first (events_from (fresh_in L) asks))

-- At the limits in force (request 4's) and document 01's soundness

abbrev pub ledger_of : List Ask → State
ledger_of asks = ledger_from limits (sound limits) fresh asks

abbrev pub history_of : List Ask → History
history_of asks = history_from at_first (events_from limits (sound limits) fresh asks)

-- The third demand, and that it says something: row 1 never applies, a collection with room is accepted, and only one list is exact
pub record Whole (asks : List Ask) : Type 0 where
  pub exact : Exact limits (sound limits) (ledger_of asks) (history_of asks)
  -- the ledger's tables answer to the history: whatever starts from here (a saved ledger, say) has demand 3 by it (Demand3From)
  pub agrees : Agrees limits (ledger_of asks) (history_of asks)
  pub is_sound : sound limits (ledger_of asks) ≡ true
  -- the nth accepted FENCE, COMMIT or COMPACT made manifest n, and the highest is current
  pub counted : (ledger_of asks).current.number ≡ length (makers (events_from limits (sound limits) fresh asks))
  -- a collection asked at the clock's time or later, with room for the longest verdict, is accepted
  pub collectable : (t room : ℕ) → (ledger_of asks).clock ≤ t → longest_verdict ≤ room → accepts limits (sound limits) (ledger_of asks) (record { request = Asked t COLLECT []; room = room }) ≡ true
  pub one_list : (t : ℕ) (l k : List ℕ) → rising_above 0 l ≡ true → rising_above 0 k ≡ true
      → ((n : ℕ) → has n l ≡ dead_at t (history_of asks) n) → ((n : ℕ) → has n k ≡ dead_at t (history_of asks) n) → l ≡ k
