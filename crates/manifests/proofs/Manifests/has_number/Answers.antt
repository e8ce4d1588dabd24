use Rattle.std.proofs.Common.{rules, tests, ◌∙◌, sym, take}
use Rattle.std.proofs.lemmas.Iterator.Search.{any_from_yields_List}
use Rattle.std.proofs.lemmas.Iterator.{YieldsList-from_slice}
use lib.Dec.{eqb}
use Rattle.rules.specs.State.{Manifest}
use Rattle.rules.proofs.Listed.{any_listed}
use Rattle.arrays.proofs.Lists.{any-map}
use Rattle.manifests.specs.declared.KeptManifest.{KeptManifest}
use Rattle.manifests.specs.Manifests.{manifest_of}
use Rattle.manifests.proofs.Manifests.has_number.Goals as goal

pub returns : goal.returns
returns c =
    let kept = take c.args.self.count c.args.self.items in
    any_from_yields_List (λ (m : KeptManifest). eqb c.args.number m.number) _ _ _ c.any.ensures.ran (YieldsList-from_slice kept cc) (λ x b q k. search (rules, tests))
    ∙ any_listed _ _ ∙ sym (any-map manifest_of (λ (m : Manifest). eqb c.args.number m.number) kept)
