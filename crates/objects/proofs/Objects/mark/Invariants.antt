-- `Objects::mark` meets its contract: the objects passed are marked, or as they were.
-- Assumes nothing.
use Rattle.rules.specs.Step.{mark}
use Rattle.objects.proofs.Filled.{Changed}
use Rattle.objects.proofs.Objects.mark.Given as goal

abbrev pub invariant-loop-object : goal.invariant-loop-object
invariant-loop-object l = Changed (mark l.list) l.fn.self.items l.object-index l.object-items
