-- `run` meets its contract: what is left says what all says, record by record.
-- Assumes nothing.
use Prim.Native.Nat.{◌-◌}
use lib.ListN.{length}
use Rattle.replay.proofs.Running.{Going}
use Rattle.replay.proofs.run.Given as goal

abbrev pub invariant-loop-n : goal.invariant-loop-n
invariant-loop-n l = Going l.initial.ledger l.trace l.initial.out l.out l.ledger l.read l.written

abbrev pub decreases-loop-n : goal.decreases-loop-n
decreases-loop-n l = length l.trace - l.read
