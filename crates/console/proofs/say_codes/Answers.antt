-- What is left has the bytes unread that all has, record by record.
-- Assumes nothing.
use Rattle.std.proofs.Common.{arith, sym, ◌∙◌}
use Rattle.console.proofs.Turns.{Turn, stops, some_read, read_within_lem, goes_again}
use Rattle.console.proofs.say_codes.Goals as goal

pub returns-in_default : goal.returns-in_default
returns-in_default g c =
    let t : Turn _ _ _ _ _ _ = record { going = c.loop-n.invariant; stepped = c.step_record-stepped.ensures } in
    stops t c.in_default.not-Judged

pub overflow_add-read : goal.overflow_add-read
overflow_add-read g c =
    let t : Turn _ _ _ _ _ _ = record { going = c.loop-n.invariant; stepped = c.step_record-stepped.ensures } in
    omega (arith, read_within_lem t _ _ c.in-Judged.is)

pub loop-n-smaller : goal.loop-n-smaller
loop-n-smaller g c =
    let t : Turn _ _ _ _ _ _ = record { going = c.loop-n.invariant; stepped = c.step_record-stepped.ensures } in
    omega (arith, some_read t _ _ c.in-Judged.is, read_within_lem t _ _ c.in-Judged.is)

pub loop-n-preserved : goal.loop-n-preserved
loop-n-preserved g c =
    let t : Turn _ _ _ _ _ _ = record { going = c.loop-n.invariant; stepped = c.step_record-stepped.ensures } in
    goes_again t _ _ c.in-Judged.is (c.loop-n.invariant.room ∙ sym c.step_record-stepped.auto.out)
