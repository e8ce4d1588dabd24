-- `store_names::put_digits` meets its contract. The invariant: the digits of the rest, and then what is written, are the digits of all.
-- Assumes nothing.
use Rattle.std.proofs.Common.{◌≡◌, ◌++◌, length, drop}
use Rattle.store_names.specs.Decimal.{digits}
use Rattle.store_names.proofs.put_digits.Given as goal

abbrev pub invariant-loop-i : goal.invariant-loop-i
invariant-loop-i l = digits l.i l.rest ++ drop l.i l.out ≡ digits (length l.initial.out) l.n
