-- `desk_exports::put_filled` meets its contract: after i turns the row's first i entries are in their places. Assumes nothing.
use Rattle.std.proofs.Common.{◌≡◌}
use Rattle.desk_exports.specs.Calls.{put_filled}
use Rattle.desk_exports.proofs.put_filled.Given as goal

abbrev pub invariant-loop-i : goal.invariant-loop-i
invariant-loop-i l = l.card ≡ put_filled l.fn.row l.i l.initial.card
