-- `Manifests::counts` meets its contract. The invariant: the first places have how many names each of the places passed has.
-- Assumes nothing.
use Rattle.rules.specs.Limits.{limits, manifest_limit}
use Rattle.arrays.proofs.Lists.{Copied}
use Rattle.manifests.specs.declared.KeptManifest.{KeptManifest}
use Rattle.manifests.proofs.Manifests.counts.Given as goal

abbrev pub invariant-loop-i : goal.invariant-loop-i
invariant-loop-i l = Copied (manifest_limit limits) (0) (λ (m : KeptManifest). m.count) l.manifest-items l.i l.counts
