-- `Ledger::is_sound` meets its contract: the parts of the test, in their order.
-- Assumes nothing.
use Rattle.std.proofs.Common.{arith}
use Rattle.ledger.proofs.View.{sized}
use Rattle.ledger.proofs.SoundParts.{sound_by_parts}
use Rattle.ledger.proofs.Ledger.is_sound.Goals as goal

pub returns-then-manifests_sound : goal.returns-then-manifests_sound
returns-then-manifests_sound c = let e = sound_by_parts c.args.self (sized c.args.self _ c.well_formed.0) in rw e (grind arith)

pub returns-else-manifests_sound : goal.returns-else-manifests_sound
returns-else-manifests_sound c = let e = sound_by_parts c.args.self (sized c.args.self _ c.well_formed.0) in rw e (grind arith)
