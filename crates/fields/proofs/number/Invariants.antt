-- `fields::number` meets its contract. The widths that records have are read at once; for others the invariant: n is what is kept of the number that the bytes
-- before this one say. Assumes nothing.
use Rattle.std.proofs.Common.{◌≡◌, take}
use Rattle.fields.specs.Bytes.{value_of, kept64}
use Rattle.fields.proofs.number.Given as goal

abbrev pub invariant-loop-b : goal.invariant-loop-b
invariant-loop-b l = l.n ≡ kept64 (value_of (take l.b-index l.s))
