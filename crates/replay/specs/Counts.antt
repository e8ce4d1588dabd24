-- What the counts of a run are, and that nothing else of the output is touched (document 01: "invented byte counts (they equal the record lengths read
-- and written)"; "each verdict is written directly behind the one before, and bytes beyond stay"). Proved in proofs/Counts.antt.
-- Assumes nothing.
use Rattle.std.specs.Prelude.{◌≡◌, ℕ, ◌≤◌, length, take, drop}
use mathlib.Core.List.{List, [], ◌++◌, flatten}
use Rattle.ledger.specs.declared.Ledger.{Ledger}
use Rattle.replay.specs.declared.Ending.TheVariants.{Whole}
use Rattle.replay.specs.Replay.{cut, tell, replay_of}

module _ (l : Ledger) (trace out : List ℕ) where
  -- the verdicts written, and the records that they answer: the first of the trace, as many
  abbrev pub verdicts_of : List (List ℕ)
  verdicts_of = (tell l (length out) (cut trace).records).verdicts

  abbrev pub answered : List (List ℕ)
  answered = take (length verdicts_of) (cut trace).records

  pub record Counted : Type 0 where
    -- the trace is its records and what is behind them
    pub joined : flatten (cut trace).records ++ (cut trace).rest ≡ trace
    -- each verdict answers a record
    pub as_many : length answered ≡ length verdicts_of
    -- the bytes read are those of the records answered, the first of the trace
    pub read : take (replay_of l trace out).answer.read trace ≡ flatten answered
    pub read_within : (replay_of l trace out).answer.read ≤ length trace
    -- the bytes written are those of the verdicts, the first of the output; the bytes beyond stay, and no byte comes or goes
    pub written : take (replay_of l trace out).answer.written (replay_of l trace out).buffer ≡ flatten verdicts_of
    pub beyond : drop (replay_of l trace out).answer.written (replay_of l trace out).buffer ≡ drop (replay_of l trace out).answer.written out
    pub size : length (replay_of l trace out).buffer ≡ length out
    -- the bytes written are a trace of their own: cut into records, they are the verdicts
    pub readable : cut (flatten verdicts_of) ≡ record { records = verdicts_of; rest = [] }
    -- a run that ends whole has read all
    pub all : (replay_of l trace out).answer.ending ≡ Whole → (replay_of l trace out).answer.read ≡ length trace
