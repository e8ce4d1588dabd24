-- `Holds::is_rising` meets its contract. The invariant: whether the numbers from here on rise above the last is what is asked.
-- Assumes nothing.
use mathlib.Core.Path.{◌≡◌}
use lib.ListN.{drop}
use Rattle.rules.specs.Lists.{rising_above}
use Rattle.holds.specs.Holds.{numbers}
use Rattle.holds.proofs.Holds.is_rising.Given as goal

abbrev pub invariant-loop-hold : goal.invariant-loop-hold
invariant-loop-hold l = rising_above l.last (numbers (drop l.hold-index l.hold-items)) ≡ rising_above 0 (numbers l.hold-items)
