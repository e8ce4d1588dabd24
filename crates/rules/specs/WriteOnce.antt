-- Names are written once (000), and what the highest number ever collected is (document 02, request 1): one claim about every sequence of steps,
-- whatever the limits and row 1's test. It is proved in proofs/WriteOnce.antt.
-- Assumes nothing.
use Rattle.std.specs.Prelude.{◌≡◌, ◌⊎◌, Bool, true, cond, List, [], ◌∷◌, ◌++◌, ℕ, suc, ◌^◌, ◌≤◌, ◌<◌}
use Rattle.rules.specs.declared.Role.{Role}
use Rattle.rules.specs.declared.Kind.{Kind}
use Rattle.rules.specs.declared.Kind.TheVariants.{Fence as FENCE, Put as PUT, Commit as COMMIT, Compact as COMPACT, Hold as HOLD, Renew as RENEW, Release as RELEASE, List as LIST, Look as LOOK, Collect as COLLECT}
use Rattle.rules.specs.declared.Answer.{Answer}
use Rattle.rules.specs.declared.Answer.TheVariants.{Refused, Done, Epoch, Listed, Found, Collected}
use Rattle.rules.specs.Lists.{◌∈◌, distinct, maximum}
use Rattle.rules.specs.Limits.{Limits}
use Rattle.rules.specs.State.{State, fresh_in}
use Rattle.rules.specs.Words.{stored}
use Rattle.rules.specs.Request.{Request, Asked, Unreadable, Ask}
use Rattle.rules.specs.Step.{Reply, verdict, reply, accepts, next}
use Rattle.rules.specs.Verdict.{Past}
use Rattle.rules.specs.History.{Event}
use Rattle.rules.specs.Demand3.{ledger_from, events_from}

-- the number that a PUT asks to store
abbrev pub put_by : Kind → List ℕ
put_by (FENCE r slot) = []
put_by (PUT r e n c) = n ∷ []
put_by (COMMIT e slot) = []
put_by (COMPACT e slot n) = []
put_by (HOLD x m e) = []
put_by (RENEW x e) = []
put_by (RELEASE x) = []
put_by (LIST x) = []
put_by (LOOK c x) = []
put_by COLLECT = []

abbrev pub put_of : Request → List ℕ
put_of (Asked t k l) = put_by k
put_of Unreadable = []

-- the numbers that were put: those of the accepted PUTs, in their order
unfoldable pub puts : List Event → List ℕ
puts [] = []
puts (e ∷ es) = cond e.accepted (put_of e.request) [] ++ puts es

-- the numbers that a collection listed
abbrev pub listed_by : Answer → List ℕ → List ℕ
listed_by (Refused n) l = []
listed_by Done l = []
listed_by (Epoch e) l = []
listed_by (Listed m) l = []
listed_by (Found n) l = []
listed_by Collected l = l

abbrev pub gone_by : Reply → List ℕ
gone_by r = listed_by r.answer r.list

module _ (L : Limits) (test : State → Bool) where
  -- the numbers that the accepted collections listed, one collection behind the other
  unfoldable pub collected_from : State → List Ask → List ℕ
  collected_from s [] = []
  collected_from s (a ∷ asks) = cond (accepts L test s a) (gone_by (reply L test s a.request)) [] ++ collected_from (next L test s a) asks

  abbrev after : List Ask → State
  after asks = ledger_from L test (fresh_in L) asks

  abbrev collected_in : List Ask → List ℕ
  collected_in asks = collected_from (fresh_in L) asks

  abbrev puts_in : List Ask → List ℕ
  puts_in asks = puts (events_from L test (fresh_in L) asks)

  pub record WriteOnce (asks : List Ask) : Type 0 where
    -- "the highest number ever collected, .. 0 at first"
    pub highest : (after asks).highest_collected ≡ maximum (collected_in asks)
    -- what was put is stored or was collected: nothing else takes it away
    pub kept : (n : ℕ) → n ∈ puts_in asks → (stored (after asks) n ≡ true) ⊎ (n ∈ collected_in asks)
    -- no number is put twice
    pub once : distinct (puts_in asks) ≡ true
    -- what is at most a number that was collected is spent, also where it was never put: a PUT of it, past 9, gives 10
    pub spent : (m n : ℕ) → m ∈ collected_in asks → n ≤ m → (t : ℕ) (r : Role) (e c : ℕ) (l : List ℕ) → Past L test (after asks) (Asked t (PUT r e n c) l) 10
        → verdict L test (after asks) (Asked t (PUT r e n c) l) ≡ 10

  -- "once [2^64-1] is collected, every PUT past 9 gives 10", of any ledger
  abbrev pub LastCollected : Type 0
  LastCollected = (s : State) → suc s.highest_collected ≡ 2 ^ 64 → (t : ℕ) (r : Role) (e n c : ℕ) (l : List ℕ) → n < 2 ^ 64
      → Past L test s (Asked t (PUT r e n c) l) 10 → verdict L test s (Asked t (PUT r e n c) l) ≡ 10
