-- `desk_exports::row_from` meets its contract: after i turns the row is that of the card's first i entries. Assumes nothing.
use Rattle.std.proofs.Common.{◌≡◌, take}
use Rattle.desk_exports.specs.Calls.{row_from}
use Rattle.desk_exports.proofs.row_from.Given as goal

abbrev pub invariant-loop-i : goal.invariant-loop-i
invariant-loop-i l = l.entry-items ≡ take l.count (row_from l.i l.card)
