use Rattle.std.proofs.Common.{arith, sym, ◌∙◌}
use Rattle.rules.proofs.Typed.{padded-room}
use Rattle.rules.proofs.is_well_formed.Goals as goal

-- the places say a list, so that it can be lent
pub shared_ref_as_front-is_formed : goal.shared_ref_as_front-is_formed
shared_ref_as_front-is_formed c = omega (arith, padded-room c.args.step.list.count c.args.step.list.names (sym c.is_padded.ensures ∙ c.if-is_padded.true))
