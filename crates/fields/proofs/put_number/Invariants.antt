-- `fields::put_number` meets its contract. Eight bytes are written at once; for others the invariant: the bytes of the rest, and then what is written, are the bytes of all.
-- Assumes nothing.
use Rattle.std.proofs.Common.{◌≡◌, ◌++◌, length, drop}
use Rattle.fields.specs.Bytes.{be}
use Rattle.fields.proofs.put_number.Given as goal

abbrev pub invariant-loop-i : goal.invariant-loop-i
invariant-loop-i l = be l.i l.rest ++ drop l.i l.out ≡ be (length l.initial.out) l.n
