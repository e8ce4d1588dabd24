-- `Objects::is_distinct` meets its contract: the numbers passed are distinct, and none is above the highest.
-- Assumes nothing.
use Rattle.objects.proofs.Places.{Passed}
use Rattle.objects.proofs.Objects.is_distinct.Given as goal

abbrev pub invariant-loop-i : goal.invariant-loop-i
invariant-loop-i l = Passed l.number-items l.i l.highest
