-- The bytes unread are those of what is left, and each turn leaves less.
-- Assumes nothing.
use Rattle.std.proofs.Common.{length, ◌-◌}
use Rattle.console.proofs.Turns.{Going}
use Rattle.console.proofs.say_codes.Given as goal

abbrev pub invariant-loop-n : goal.invariant-loop-n
invariant-loop-n g l = Going l.trace l.verdict l.read

abbrev pub decreases-loop-n : goal.decreases-loop-n
decreases-loop-n g l = length l.trace - l.read
