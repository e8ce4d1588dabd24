-- "strike any refused steps from a trace that ends whole, and the others' verdicts and the last ledger are unchanged, room sufficing" (document 02,
-- request 13), on bytes: of any ledger value to start from. What is struck, and what can be, is crate rules' (its specs/Struck.antt). Proved in
-- proofs/Struck.antt. Assumes nothing.
use Rattle.std.specs.Prelude.{◌≡◌, Bool, true, false, not, ℕ, ◌≤◌, eqb, length}
use mathlib.Core.List.{List, flatten}
use Rattle.fields.specs.Fields.{over}
use Rattle.rules.specs.Lists.{all}
use Rattle.rules.specs.Request.{Unreadable}
use Rattle.rules.specs.Step.{code}
use Rattle.rules.specs.Struck.{others, refusals, within}
use Rattle.records.specs.Steps.{decode_step}
use Rattle.ledger.specs.declared.Ledger.{Ledger}
use Rattle.ledger.specs.Ledger.{is_sound}
use Rattle.replay.specs.declared.Ending.TheVariants.{Whole}
use Rattle.replay.specs.Front.{answer_to}
use Rattle.replay.specs.Replay.{Replay, cut, replay_of}
use Rattle.replay.specs.Counts.{verdicts_of}

-- the ledger that a record leaves, and whether it is refused: its verdict's code is not 0
abbrev pub leaves : Ledger → List ℕ → Ledger
leaves l r = (answer_to l r).ledger

abbrev pub is_refused : Ledger → List ℕ → Bool
is_refused l r = not (eqb (code (answer_to l r).verdict.answer) 0)

-- which records of a trace are refused, each on the ledger that the one before it left
abbrev pub refused_in : Ledger → List ℕ → List Bool
refused_in l trace = refusals leaves is_refused l (cut trace).records

-- the trace without the records that are struck
abbrev pub struck : List Bool → List ℕ → List ℕ
struck marks trace = flatten (others marks (cut trace).records)

module _ (l : Ledger) (trace out : List ℕ) where
  -- the others' verdicts, as the run over all of the trace wrote them, one behind the other
  abbrev pub others_verdicts : List Bool → List ℕ
  others_verdicts marks = flatten (others marks (verdicts_of l trace out))

  -- what a run over what is left comes to: it ends whole too, it leaves the same ledger, and it writes the others' verdicts
  abbrev pub run_left : List Bool → List ℕ → Replay
  run_left marks room = record {
    answer = record { ending = Whole; ledger = (replay_of l trace out).answer.ledger; read = length (struck marks trace); written = length (others_verdicts marks) };
    buffer = over (others_verdicts marks) room;
  }

  pub record Unstruck : Type 0 where
    -- with any output that has room for the others' verdicts; the same output has
    pub same : (marks : List Bool) → within marks (refused_in l trace) ≡ true → (room : List ℕ) → length (others_verdicts marks) ≤ length room
        → replay_of l (struck marks trace) room ≡ run_left marks room
    pub fits : (marks : List Bool) → length (others_verdicts marks) ≤ length out
    -- of a trace that met no refusal nothing can be struck
    pub nothing : all not (refused_in l trace) ≡ true → (marks : List Bool) → within marks (refused_in l trace) ≡ true → struck marks trace ≡ trace
    -- all refusals can be struck, and the trace that is left meets none
    pub every : within (refused_in l trace) (refused_in l trace) ≡ true
    pub none_left : all not (refused_in l (struck (refused_in l trace) trace)) ≡ true

pub record StrikesOnBytes : Type 0 where
  pub unstruck : (l : Ledger) (trace out : List ℕ) → (replay_of l trace out).answer.ending ≡ Whole → Unstruck l trace out
  -- bytes that are no step are refused; on a ledger that is not sound every record is, so any can be struck
  pub no_step : (l : Ledger) (bytes : List ℕ) → decode_step bytes ≡ Unreadable → is_refused l bytes ≡ true
  pub unsound : (l : Ledger) (trace : List ℕ) → is_sound l ≡ false → (marks : List Bool) → within marks (refused_in l trace) ≡ true
