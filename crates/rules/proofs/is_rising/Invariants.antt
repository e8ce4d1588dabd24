-- `rules::is_rising` meets its contract. The invariant: whether the numbers from here on rise above the floor is what is asked.
-- Assumes nothing.
use mathlib.Core.Path.{◌≡◌}
use lib.ListN.{drop}
use Rattle.rules.specs.Lists.{rising_above}
use Rattle.rules.proofs.is_rising.Given as goal

abbrev pub invariant-loop-n : goal.invariant-loop-n
invariant-loop-n l = rising_above l.floor (drop l.n-index l.list) ≡ rising_above 0 l.list
