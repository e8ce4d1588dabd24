-- What is asked: a step, or bytes that are none, and the room for its verdict.
-- Assumes nothing.
use Rattle.std.specs.Prelude.{List, ℕ}
use Rattle.rules.specs.declared.Kind.{Kind}

pub data Request : Type 0 where
  -- a step: its time, its kind, and the list that a COMMIT has beside it
  Asked : ℕ → Kind → List ℕ → Request
  -- bytes that are no well-formed record, or a step that no record can say
  Unreadable : Request

-- room: the bytes left for the verdict
pub record Ask : Type 0 where
  pub request : Request
  pub room : ℕ
