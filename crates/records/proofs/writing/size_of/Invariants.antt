-- `records::writing::size_of` meets its contract: the size so far and that of the fields left are the size of all.
-- Assumes nothing.
use Rattle.std.proofs.Common.{◌≡◌, ◌+◌, ◌*◌, ◌≤◌, length, drop}
use Rattle.rules.specs.Limits.{limits}
use Rattle.records.specs.Format.{bytes_of}
use Rattle.records.proofs.writing.size_of.Given as goal

abbrev pub invariant-loop-f : goal.invariant-loop-f
invariant-loop-f l = (l.size ≤ (3 + 8 * limits.places) * l.f-index) × (l.size + length (bytes_of (drop l.f-index l.f-items) l.list) ≡ length (bytes_of l.f-items l.list))
