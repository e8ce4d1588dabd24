-- `verdicts::write_verdict` meets its contract: a reply that is well formed is written as its record.
-- Assumes nothing.
use Rattle.std.proofs.Common.{◌≡◌, length, length-take, sym, arith, rules}
use Rattle.rules.specs.Limits.{limits}
use Rattle.rules.proofs.Typed.{padded-room}
use Rattle.verdicts.proofs.write_verdict.Goals as goal

pub shared_ref_as_front-objects : goal.shared_ref_as_front-objects
shared_ref_as_front-objects c =
    let list = c.args.verdict.list in
    let long : length list.objects ≡ limits.places = search rules in
    omega (arith, padded-room list.count list.objects (sym c.if-not-is_padded.ensures))

pub write_record-requires : goal.write_record-requires
write_record-requires c =
    let list = c.args.verdict.list in
    let long : length list.objects ≡ limits.places = search rules in
    simp length-take (omega arith)
