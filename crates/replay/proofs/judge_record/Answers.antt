-- `judge_record` meets its contract: by what the verdict's writer answers.
-- Assumes nothing.
use mathlib.Core.Path.{ap, ◌∙◌}
use Rattle.std.specs.Prelude.{Result}
use Rattle.fields.specs.declared.WriteError.{WriteError}
use Prim.Native.Nat.{ℕ}
use Rattle.replay.proofs.Judging.{stepped_by, unwritten, record_stepped}
use Rattle.replay.proofs.judge_record.Goals as goal

pub returns-in_default : goal.returns-in_default
returns-in_default c =
    let wrote = c in
    let answer = c in
    let a = answer.args in
    record_stepped a.before a.bytes.now a.out.now answer.answer_to-answer.ensures wrote.write_verdict.ensures
    ∙ unwritten a.before a.bytes.now answer.answer_to-answer.result wrote.write_verdict.result wrote.write_verdict.new.out c.in_default.not-Ok

pub returns : goal.returns
returns c =
    let wrote = c in
    let answer = c in
    let a = answer.args in
    record_stepped a.before a.bytes.now a.out.now answer.answer_to-answer.ensures wrote.write_verdict.ensures
    ∙ ap (λ (w : Result ℕ WriteError). stepped_by a.before a.bytes.now answer.answer_to-answer.result w wrote.write_verdict.new.out) c.in-Ok.is
