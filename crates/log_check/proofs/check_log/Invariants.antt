-- `check_log` meets its contract: what is left of the trace and of the log says what all says, record by record.
-- Assumes nothing.
use Prim.Native.Nat.{◌-◌}
use lib.ListN.{length}
use Rattle.log_check.proofs.Loop.{Invariant}
use Rattle.log_check.proofs.check_log.Given as goal

abbrev pub invariant-loop-n : goal.invariant-loop-n
invariant-loop-n l = Invariant l.initial.ledger l.trace l.log l.verdict l.ledger l.read l.agreed l.index

abbrev pub decreases-loop-n : goal.decreases-loop-n
decreases-loop-n l = length l.trace - l.read
