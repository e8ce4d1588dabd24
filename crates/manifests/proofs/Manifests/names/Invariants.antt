-- `Manifests::names` meets its contract. The invariant: the first places have the names of the places passed.
-- Assumes nothing.
use lib.ListN.{replicate}
use Rattle.rules.specs.Limits.{limits, manifest_limit}
use Rattle.arrays.proofs.Lists.{Copied}
use Rattle.manifests.specs.declared.KeptManifest.{KeptManifest}
use Rattle.manifests.proofs.Manifests.names.Given as goal

abbrev pub invariant-loop-i : goal.invariant-loop-i
invariant-loop-i l = Copied (manifest_limit limits) (replicate limits.names 0) (λ (m : KeptManifest). m.names) l.manifest-items l.i l.names
