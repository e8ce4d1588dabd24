-- `Objects::highest` meets its contract: the higher of the best so far and the highest that is left is what is asked.
-- Assumes nothing.
use mathlib.Core.Path.{◌≡◌}
use Prim.Native.Nat.{max}
use lib.ListN.{drop}
use Rattle.rules.specs.Lists.{maximum}
use Rattle.objects.specs.Objects.{of_currency_in}
use Rattle.objects.proofs.Objects.highest.Given as goal

abbrev pub invariant-loop-name : goal.invariant-loop-name
invariant-loop-name l =
    max l.best (maximum (of_currency_in l.fn.self.items l.currency (drop l.name-index l.list))) ≡ maximum (of_currency_in l.fn.self.items l.currency l.list)
