-- Laws of numbers laid over the start of others. Assumes nothing.
use mathlib.Core.Path.{◌≡◌}
use mathlib.Core.List.{List, append-nil}
use Prim.Native.Nat.{ℕ, ◌≤◌}
use lib.ListN.{length, drop_of_length-le}
use Rattle.fields.specs.Fields.{over}

-- over no more than their own room they are all there is
pub over-all : (from to : List ℕ) → length to ≤ length from → over from to ≡ from
over-all from to h = rw (drop_of_length-le to h, append-nil)
