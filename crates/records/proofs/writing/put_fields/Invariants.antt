-- `records::writing::put_fields` meets its contract: what is written, and then the fields left, are all of them.
-- Assumes nothing.
use Rattle.std.proofs.Common.{◌≡◌, ◌++◌, ◌+◌, length, take, drop}
use Rattle.records.specs.Format.{bytes_of}
use Rattle.records.proofs.writing.put_fields.Given as goal

abbrev pub invariant-loop-f : goal.invariant-loop-f
invariant-loop-f l =
    (l.at + length (bytes_of (drop l.f-index l.f-items) l.list) ≡ length l.initial.out)
    × (take l.at l.out ++ bytes_of (drop l.f-index l.f-items) l.list ≡ bytes_of l.f-items l.list)
