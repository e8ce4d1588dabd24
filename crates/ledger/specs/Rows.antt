-- The rows of the refusal table behind the door (rows 1 to 3), as the code tests them.
-- Assumes nothing.
use Rattle.std.specs.Prelude.{List, ℕ, drop}
use Rattle.rules.specs.declared.Kind.{Kind}
use Rattle.rules.specs.Limits.{limits}
use Rattle.rules.specs.State.{State}
use Rattle.rules.specs.Table.{rows, first_of}

-- the first row from the third on that applies to a kind
abbrev pub row_behind : State → ℕ → Kind → List ℕ → ℕ
row_behind s t k l = first_of (drop 2 (rows limits s t k l))
