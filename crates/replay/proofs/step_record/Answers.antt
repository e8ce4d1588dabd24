-- `step_record` meets its contract: by what stands at the front.
-- Assumes nothing.
use mathlib.Core.Path.{sym, ◌∙◌}
use lib.Seq.{length-take-le}
use Rattle.replay.specs.Front.{front_step}
use Rattle.replay.proofs.Judging.{record_found}
use Rattle.replay.proofs.step_record.Goals as goal

pub slice_bounds-judge_record-end : goal.slice_bounds-judge_record-end
slice_bounds-judge_record-end c =
    let found = c in
    let trace = found.args.trace.now in
    sym (length-take-le _ trace (record_found trace _ (sym found.next_record.ensures ∙ c.in-Record.is)).1)

pub returns-in-End : goal.returns-in-End
unfolding front_step
returns-in-End c = rw (sym c.next_record.ensures ∙ c.in-End.is)

pub returns-in-Torn : goal.returns-in-Torn
unfolding front_step
returns-in-Torn c = rw (sym c.next_record.ensures ∙ c.in-Torn.is)

pub returns-in-Record : goal.returns-in-Record
unfolding front_step
returns-in-Record c =
    let judged = c in
    let found = c in
    rw (sym found.next_record.ensures ∙ judged.in-Record.is) judged.judge_record.ensures
