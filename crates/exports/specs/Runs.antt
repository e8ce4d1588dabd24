-- A run as C sees it: how it ended as a number, the bytes read and written in a lent slice, and the ledger as numbers.
-- Assumes nothing.
use Rattle.std.specs.Prelude.{cond, List, [], ◌∷◌, ℕ, ltb, length}
use Rattle.fields.specs.Fields.{over}
use Rattle.rules.specs.State.{fresh}
use Rattle.ledger.specs.Ledger.{lay}
use Rattle.replay.specs.declared.Ran.{Ran}
use Rattle.replay.specs.Replay.{ending_code, Replay, replay_of}
use Rattle.ledger_numbers.specs.Numbers.{ledger_from, laid_back, ledger_size}

-- the bytes read, then the bytes written, over the first two elements
abbrev pub counts_of : Ran → List ℕ → List ℕ
counts_of r counts = over (r.read ∷ r.written ∷ []) counts

-- the answer, and every element of the slices that a run may write
pub record RunCall : Type 0 where
  pub answer : ℕ
  pub out : List ℕ
  pub counts : List ℕ

abbrev pub called : Replay → List ℕ → RunCall
called r counts = record { answer = ending_code r.answer.ending; out = r.buffer; counts = counts_of r.answer counts }

-- on the fresh ledger; 3 where there is no place for the counts
unfoldable pub run : List ℕ → List ℕ → List ℕ → RunCall
run trace out counts = cond (ltb (length counts) 2) (record { answer = 3; out = out; counts = counts }) (called (replay_of (lay fresh) trace out) counts)

pub record RunOnCall : Type 0 where
  pub answer : ℕ
  pub ledger : List ℕ
  pub out : List ℕ
  pub counts : List ℕ

abbrev pub called_on : Replay → List ℕ → List ℕ → RunOnCall
called_on r ledger counts = record {
  answer = ending_code r.answer.ending;
  ledger = laid_back r.answer.ledger ledger;
  out = r.buffer;
  counts = counts_of r.answer counts;
}

-- on the ledger that the numbers say; 3 where they are too few, or there is no place for the counts
module _ (ledger trace out counts : List ℕ) where
  abbrev pub untouched_on : RunOnCall
  untouched_on = record { answer = 3; ledger = ledger; out = out; counts = counts }

  unfoldable pub run_on : RunOnCall
  run_on =
      cond (ltb (length ledger) ledger_size) untouched_on
      (cond (ltb (length counts) 2) untouched_on
      (called_on (replay_of (ledger_from ledger) trace out) ledger counts))
