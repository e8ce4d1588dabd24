-- `store_names::read_digits` meets its contract. The invariant: what the rest says behind n is what all says.
-- Assumes nothing.
use Rattle.std.proofs.Common.{◌≡◌, ◌≤◌, drop}
use Rattle.store_names.specs.Decimal.{largest, decimal, decimal_from}
use Rattle.store_names.proofs.read_digits.Given as goal

abbrev pub invariant-loop-b : goal.invariant-loop-b
invariant-loop-b l = (l.n ≤ largest) × (decimal_from l.n (drop l.b-index l.s) ≡ decimal l.s)
