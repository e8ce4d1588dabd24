-- What the check of a log finds, of any ledger, trace and log. Proved in proofs/Exact.antt.
-- Assumes nothing.
use Rattle.std.specs.Prelude.{◌≡◌, ◌⊎◌, ◌↔◌, Bool, true, false, ℕ, suc, ◌*◌, ◌≤◌, ◌<◌, length, take, None, Some}
use mathlib.Core.List.{List, flatten}
use Rattle.rules.specs.Lists.{none}
use Rattle.rules.specs.Step.{longest_verdict}
use Rattle.ledger.specs.declared.Ledger.{Ledger}
use Rattle.replay.specs.declared.Ending.TheVariants.{Whole, Torn, Full}
use Rattle.replay.specs.Replay.{cut, replay_of}
use Rattle.log_check.specs.Check.{due, logged, both_whole, checked_of, is_prefix}

-- the log that our own run writes into this output
abbrev pub own_log : Ledger → List ℕ → List ℕ → List ℕ
own_log l trace out = take (replay_of l trace out).answer.written (replay_of l trace out).buffer

-- the verdicts due and those of the log first disagree at n; whole: neither side ends in a torn record
pub record FirstAt (vs ws : List (List ℕ)) (whole : Bool) (n : ℕ) : Type 0 where
  -- both sides have n verdicts, and these are the same
  pub before : take n vs ≡ take n ws
  pub in_due : n ≤ length vs
  pub in_log : n ≤ length ws
  -- the next one differs, is missing or is one too many; or neither side has one, and one of them is torn there
  pub differs : (take (suc n) vs ≡ take (suc n) ws → ⊥) ⊎ ((length vs ≡ n) × (length ws ≡ n) × (whole ≡ false))

-- the same in bytes, however the log would be cut into records; ends: the trace does not end in a torn one
pub record FirstInBytes (vs : List (List ℕ)) (ends : Bool) (log : List ℕ) (n : ℕ) : Type 0 where
  -- the log starts with the first n verdicts due
  pub before : is_prefix (flatten (take n vs)) log ≡ true
  -- and not with one more; or no more are due, and it has more bytes or the trace is torn
  pub differs : ((n < length vs) × (is_prefix (flatten (take (suc n) vs)) log ≡ false)) ⊎ ((length vs ≡ n) × ((flatten vs ≡ log → ⊥) ⊎ (ends ≡ false)))

module _ (l : Ledger) (trace log : List ℕ) where
  pub record LogChecked : Type 0 where
    -- "For a trace that ends whole it shall accept exactly the log our own run writes with room enough": a run that ends whole had room enough
    pub whole : (out : List ℕ) → (replay_of l trace out).answer.ending ≡ Whole → (checked_of l trace log ≡ None) ↔ (log ≡ own_log l trace out)
    -- "and for a torn trace none"
    pub torn : (out : List ℕ) → (replay_of l trace out).answer.ending ≡ Torn → checked_of l trace log ≡ None → ⊥
    -- which room is enough: that of the verdicts due; and the longest verdict for each record is no less
    pub enough : (out : List ℕ) → ((replay_of l trace out).answer.ending ≡ Full) ↔ (length out < length (flatten (due l trace)))
    pub most : length (flatten (due l trace)) ≤ length (cut trace).records * longest_verdict
    -- an index is said exactly where the first disagreement is
    pub first : (n : ℕ) → (checked_of l trace log ≡ Some n) ↔ FirstAt (due l trace) (logged log) (both_whole trace log) n
    pub first_in_bytes : (n : ℕ) → (checked_of l trace log ≡ Some n) ↔ FirstInBytes (due l trace) (none (cut trace).rest) log n
