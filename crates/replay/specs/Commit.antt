-- Demand 2's condition for a commit, on bytes: any ledger value, the record of a COMMIT, any room. Proved in proofs/Commit.antt.
-- Assumes nothing.
use Rattle.std.specs.Prelude.{◌≡◌, ◌↔◌, true, List, [], ℕ, ◌≤◌, length}
use Rattle.fields.specs.Fields.{over}
use Rattle.rules.specs.declared.Kind.TheVariants.{Commit as COMMIT}
use Rattle.rules.specs.declared.Answer.TheVariants.{Done}
use Rattle.rules.specs.Limits.{limits}
use Rattle.rules.specs.Request.{Asked}
use Rattle.rules.specs.Step.{alone, effect}
use Rattle.rules.specs.Typed.{verdict_of}
use Rattle.rules.specs.Verdict.{MayCommit}
use Rattle.records.specs.Steps.{decode_step}
use Rattle.verdicts.specs.Verdicts.{encode_verdict}
use Rattle.ledger.specs.declared.Ledger.{Ledger}
use Rattle.ledger.specs.Ledger.{lay, view, is_sound}
use Rattle.replay.specs.declared.Front.TheVariants.{Judged}
use Rattle.replay.specs.Front.{answer_to, answer_bytes, Judgement, record_step}

-- "exactly when the ledger is sound, it is well formed and on time, its writer is known and unfenced, its slot is the next one, every object it names is
-- stored and its verdict fits"
abbrev pub MayTake : Ledger → ℕ → ℕ → ℕ → List ℕ → ℕ → Type 0
MayTake l t e slot names room = (is_sound l ≡ true) × MayCommit limits (view l) t e slot names room

-- verdict 0 is written, and the next ledger is the layout of the commit's effect
abbrev pub committed : Ledger → List ℕ → ℕ → ℕ → ℕ → List ℕ → List ℕ → Judgement
committed l bytes t e slot names out = record {
  answer = record { front = Judged (length bytes) 7; ledger = lay (effect (Asked t (COMMIT e slot) names) (view l)) };
  buffer = over (encode_verdict Done []) out;
}

pub record CommitOnBytes (l : Ledger) (bytes out : List ℕ) (t e slot : ℕ) (names : List ℕ) : Type 0 where
  -- it is accepted and its verdict fits under these conditions and no others
  pub exactly : (((answer_to l bytes).verdict ≡ verdict_of (alone Done)) × (length (answer_bytes l bytes) ≤ length out)) ↔ MayTake l t e slot names (length out)
  -- then it takes effect
  pub takes : MayTake l t e slot names (length out) → record_step l bytes out ≡ committed l bytes t e slot names out
  -- otherwise the ledger stays
  pub otherwise : (MayTake l t e slot names (length out) → ⊥) → (record_step l bytes out).answer.ledger ≡ l

abbrev pub CommitsOnBytes : Type 0
CommitsOnBytes = (l : Ledger) (bytes out : List ℕ) (t e slot : ℕ) (names : List ℕ) → decode_step bytes ≡ Asked t (COMMIT e slot) names → CommitOnBytes l bytes out t e slot names
