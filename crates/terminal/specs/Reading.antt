-- What is known of a reader's bytes once it was read up to its end, or until a room was full.
-- Assumes nothing.
use Rattle.std.specs.Prelude.{ℕ, ◌<◌, ◌≤◌, List, length, take, ⊤, Option, Result, Ok, Err}
use Rattle.std.specs.Io.KnownBytes.{Consumes, IsAtEnd}

-- no more was put into the room than it has
abbrev pub FitsRoom : {E : Type 0} → Result ℕ E → List ℕ → Type 0
FitsRoom (Ok n) room = n ≤ length room
FitsRoom (Err e) room = ⊤

-- what stands at the room's start is what the reader gave, and where there is room left the reader is at its end
abbrev pub HasRead : {E : Type 0} → Result ℕ E → Option (List ℕ) → Option (List ℕ) → List ℕ → Type 0
HasRead (Ok n) old new room = Consumes old new (take n room) × (n < length room → IsAtEnd new)
HasRead (Err e) old new room = ⊤
