-- `Holds::renew` meets its contract. The invariant: the array is the layout of the holds passed, each renewed or as it was.
-- Assumes nothing.
use Rattle.rules.specs.Step.{renewed}
use Rattle.arrays.proofs.Lists.{Filled}
use Rattle.holds.specs.Holds.{no_hold}
use Rattle.holds.proofs.Holds.renew.Given as goal

abbrev pub invariant-loop-i : goal.invariant-loop-i
invariant-loop-i l = Filled 8 no_hold (renewed l.number l.expiry) l.held l.i l.next.items
