-- `records::steps::write_step` meets its contract: a step that a record can say is written as its record.
-- Assumes nothing.
use Rattle.std.proofs.Common.{◌≡◌, length, length-take, sym, arith, rules}
use Rattle.rules.specs.Limits.{limits}
use Rattle.records.proofs.Listed.{said-room}
use Rattle.records.proofs.steps.write_step.Goals as goal

pub shared_ref_as_front-names : goal.shared_ref_as_front-names
shared_ref_as_front-names c =
    let step = c.args.step in
    let long : length step.list.names ≡ limits.names = search rules in
    omega (arith, said-room step (sym c.if-not-is_well_formed.ensures))

pub write_record-requires : goal.write_record-requires
write_record-requires c =
    let step = c.args.step in
    let long : length step.list.names ≡ limits.names = search rules in
    simp length-take (omega arith)
