-- A log of verdicts checked against our own (document 02, request 12): "says that all agree, or gives the index from 0 of the first record whose verdict
-- differs, is missing or is one too many. Torn on either side is a disagreement at that index."
-- Assumes nothing.
use Rattle.std.specs.Prelude.{Bool, cond, ◌&&◌, List, [], ◌∷◌, ℕ, suc, eqb, Option, None, Some}
use Rattle.std.specs.List.{starts_with}
use Rattle.rules.specs.Lists.{none}
use Rattle.objects.specs.Objects.{same}
use Rattle.rules.specs.Struck.{each}
use Rattle.ledger.specs.declared.Ledger.{Ledger}
use Rattle.replay.specs.declared.Front.{Front}
use Rattle.replay.specs.declared.Front.TheVariants.{End, Torn, Full, Judged}
use Rattle.replay.specs.Front.{answer_bytes}
use Rattle.replay.specs.Replay.{cut}
use Rattle.replay.specs.Struck.{leaves}

-- the verdicts that are due: those of the trace's records, each on the ledger that the one before it left
abbrev pub due : Ledger → List ℕ → List (List ℕ)
due l trace = each leaves answer_bytes l (cut trace).records

-- the verdicts that the log has: it is cut into records as a trace is
abbrev pub logged : List ℕ → List (List ℕ)
logged log = (cut log).records

-- neither side ends in a torn record
abbrev pub both_whole : List ℕ → List ℕ → Bool
both_whole trace log = none (cut trace).rest && none (cut log).rest

-- the verdicts due beside those of the log, from index i on, and the index where they disagree: one that is too many, one that is missing, one that differs
unfoldable pub compared : ℕ → List (List ℕ) → List (List ℕ) → Bool → Option ℕ
compared i [] [] whole = cond whole None (Some i)
compared i [] (w ∷ ws) whole = Some i
compared i (v ∷ vs) [] whole = Some i
compared i (v ∷ vs) (w ∷ ws) whole = cond (same v w) (compared (suc i) vs ws whole) (Some i)

abbrev pub checked_from : ℕ → Ledger → List ℕ → List ℕ → Option ℕ
checked_from i l trace log = compared i (due l trace) (logged log) (both_whole trace log)

unfoldable pub checked_of : Ledger → List ℕ → List ℕ → Option ℕ
checked_of l trace log = checked_from 0 l trace log

-- As the code asks

-- the bytes start with these
unfoldable pub is_prefix : List ℕ → List ℕ → Bool
is_prefix vs bs = starts_with eqb bs vs

-- no record is judged any more and so many bytes of the log are left; with room for the longest verdict the front is never full, and a judged one ends nothing
abbrev pub ended_at : Front → ℕ → ℕ → Option ℕ
ended_at End left i = cond (eqb left 0) None (Some i)
ended_at Torn left i = Some i
ended_at Full left i = Some i
ended_at (Judged n k) left i = Some i
