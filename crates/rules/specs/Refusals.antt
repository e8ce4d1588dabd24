-- The rows of the refusal table by the names that the code gives them (src/rows.rt), and their numbers.
-- Assumes nothing.
use Rattle.std.specs.Prelude.{ℕ, Result, Ok, Err}
use Rattle.rules.specs.declared.rows.Refusal.{Refusal}
use Rattle.rules.specs.declared.rows.Refusal.TheVariants.{Unsound, Malformed, Late, NotAnEpoch, Fenced, SlotTaken, SlotAhead, NotStored, Stored, Collected, Full, HoldTaken, NotActive, HoldsFull, NotLive, NoObject, NothingToCompact}

-- a row's number
abbrev pub number : Refusal → ℕ
number Unsound = 1
number Malformed = 2
number Late = 3
number NotAnEpoch = 4
number Fenced = 5
number SlotTaken = 6
number SlotAhead = 7
number NotStored = 8
number Stored = 9
number Collected = 10
number Full = 11
number HoldTaken = 12
number NotActive = 13
number HoldsFull = 14
number NotLive = 15
number NoObject = 16
number NothingToCompact = 17

-- the number that turns away, 0 where none does
abbrev pub row_of : {A : Type 0} → Result A Refusal → ℕ
row_of (Ok x) = 0
row_of (Err r) = number r
