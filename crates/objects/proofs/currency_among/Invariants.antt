-- `currency_among` meets its contract: what stands beside the number among those that are left is what stands beside it among all.
-- Assumes nothing.
use mathlib.Core.Path.{◌≡◌}
use Rattle.objects.specs.Objects.{beside}
use Rattle.objects.proofs.currency_among.Given as goal

abbrev pub invariant-loop-n : goal.invariant-loop-n
invariant-loop-n l = beside l.n-iterator.a.rest.now l.n-iterator.b.rest.now l.number ≡ beside l.numbers l.currencies l.number
