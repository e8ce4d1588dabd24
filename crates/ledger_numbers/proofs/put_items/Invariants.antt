-- What is written are the numbers of the items so far.
use Rattle.std.proofs.Common.{◌≡◌, ◌*◌, take}
use Rattle.ledger_numbers.specs.Numbers.{flat}
use Rattle.ledger_numbers.proofs.put_items.Given as goal

abbrev pub invariant-loop-i : goal.invariant-loop-i
invariant-loop-i g l = let t = g.T.Numbers in take (t.SIZE * l.i) l.out ≡ flat t.numbers (take l.i l.items)
