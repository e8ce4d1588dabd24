-- Demand 3 of a run from the fresh ledger: its records are a sequence of asks, so that the claim about every such sequence (crate ledger,
-- specs/Demand3.antt; crate rules, specs/Demand3.antt) is a claim about runs. Proved in proofs/Demand3.antt.
-- Assumes nothing.
use Rattle.std.specs.Prelude.{◌≡◌, true, cond, ℕ, ◌-◌, leb, ltb, length, take}
use mathlib.Core.List.{List, [], ◌∷◌, map, flatten}
use Rattle.fields.specs.Fields.{over}
use Rattle.rules.specs.Limits.{Limits, limits, first_limits}
use Rattle.rules.specs.State.{fresh, fresh_in}
use Rattle.rules.specs.Request.{Ask}
use Rattle.rules.specs.Step.{Reply, size}
use Rattle.rules.specs.Raised.{never_met, replies_from}
use Rattle.records.specs.Steps.{decode_step}
use Rattle.verdicts.specs.Verdicts.{encode_verdict}
use Rattle.ledger.specs.declared.Ledger.{Ledger}
use Rattle.ledger.specs.Ledger.{lay}
use Rattle.ledger.specs.Demand3.{ledger_after, Delivered}
use Rattle.replay.specs.Front.{answer_to, answer_bytes}
use Rattle.replay.specs.Replay.{cut, replay_of}

-- a record and the room for its verdict
abbrev pub asking : List ℕ → ℕ → Ask
asking r room = record { request = decode_step r; room = room }

-- the records that a run comes to, each with the room left at its turn: those that it reads, and the one whose verdict has no room
unfoldable pub asks_from : Ledger → ℕ → List (List ℕ) → List Ask
asks_from l room [] = []
asks_from l room (r ∷ rs) =
    asking r room ∷ cond (ltb room (length (answer_bytes l r))) [] (asks_from (answer_to l r).ledger (room - length (answer_bytes l r)) rs)

abbrev pub asks_of : List ℕ → List ℕ → List Ask
asks_of trace out = asks_from (lay fresh) (length out) (cut trace).records

-- the bytes of the replies to these asks, of those that fit
unfoldable pub bytes_of : List Reply → List Ask → List (List ℕ)
bytes_of [] asks = []
bytes_of (r ∷ rs) [] = []
bytes_of (r ∷ rs) (a ∷ asks) = cond (leb (size r) a.room) (encode_verdict r.answer r.list ∷ bytes_of rs asks) (bytes_of rs asks)

-- what the rules write over the output at these limits, from fresh on
abbrev pub told_within : Limits → List ℕ → List Ask → List ℕ
told_within L out asks = over (flatten (bytes_of (replies_from L (fresh_in L) asks) asks)) out

pub record RunDelivered (trace out : List ℕ) : Type 0 where
  -- what is asked is what the records say, in their order
  pub asked : map (λ (a : Ask). a.request) (asks_of trace out) ≡ take (length (asks_of trace out)) (map decode_step (cut trace).records)
  -- the ledger that the run leaves is the one that its asks leave, each given to what the one before it left
  pub kept : (replay_of (lay fresh) trace out).answer.ledger ≡ ledger_after (lay fresh) (asks_of trace out)
  -- before each record and at the end demand 3 holds, whole
  pub delivered : (k : ℕ) → Delivered (take k (asks_of trace out))
  -- the output is the replies of the rules, one behind the other
  pub output : (replay_of (lay fresh) trace out).buffer ≡ told_within limits out (asks_of trace out)
  -- "A trace that never met an old limit keeps its verdicts" (document 02, request 4): every byte is what the rules gave within document 01's own limits
  pub old : never_met first_limits (fresh_in first_limits) (asks_of trace out) ≡ true → (replay_of (lay fresh) trace out).buffer ≡ told_within first_limits out (asks_of trace out)
