-- `records::walking::read_field` meets its contract: a value that was read is there.
-- Assumes nothing.
use Rattle.std.proofs.Common.{◌+◌, ◌≤◌, length, sym, arith}
use Rattle.fields.proofs.Fields.{head_read}
use Rattle.records.proofs.walking.read_field.Goals.{In_ok-len}
use Rattle.records.proofs.walking.read_field.Goals as goal

room : (c : In_ok-len) → 3 + c.in_ok-len.len ≤ length c.args.bytes.now
room c = (head_read c.args.f.tag c.in_ok-len.len c.args.bytes.now (sym c.in_ok-len.ensures)).2

pub overflow_add-len : goal.overflow_add-len
overflow_add-len c = omega (arith, room (goal.at.overflow_add-len c).In_ok-len)

pub slice_bounds-number-end : goal.slice_bounds-number-end
slice_bounds-number-end c = omega (arith, room (goal.at.slice_bounds-number-end c).In_ok-len)
