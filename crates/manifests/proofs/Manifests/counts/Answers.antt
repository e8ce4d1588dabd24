use Rattle.std.proofs.Common.{arith}
use Rattle.arrays.proofs.Lists.{copied_none, copied_next, copied_all}
use Rattle.manifests.specs.declared.KeptManifest.{KeptManifest}
use Rattle.manifests.specs.Manifests.{past_end}
use Rattle.manifests.proofs.Places.{items_long}
use Rattle.manifests.proofs.Manifests.counts.Goals as goal

pub loop-i-init : goal.loop-i-init
loop-i-init c = copied_none _ (0) (λ (m : KeptManifest). m.count) c.args.self.items (items_long c.args.self _ c.well_formed.0)

pub loop-i-preserved : goal.loop-i-preserved
loop-i-preserved c = copied_next _ _ _ _ c.loop-i.invariant past_end (omega arith)

pub returns : goal.returns
returns c = copied_all _ _ _ _ c.loop-i.invariant (omega arith)
