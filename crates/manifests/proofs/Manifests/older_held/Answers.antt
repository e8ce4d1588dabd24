use Rattle.std.proofs.Common.{rules, tests, ◌∙◌, sym, take, ◌-◌}
use Rattle.std.proofs.lemmas.List.Folds.{list_all-map}
use Rattle.std.proofs.lemmas.Iterator.Search.{all_from_yields_List}
use Rattle.std.proofs.lemmas.Iterator.{YieldsList-from_slice}
use Rattle.rules.specs.Step.{held_by}
use Rattle.rules.proofs.Listed.{all_listed}
use Rattle.holds.specs.Holds.{holds_of}
use Rattle.manifests.specs.declared.KeptManifest.{KeptManifest}
use Rattle.manifests.specs.Manifests.{manifest_of}
use Rattle.manifests.proofs.Manifests.older_held.Goals as goal

pub returns : goal.returns
returns c =
    let held = held_by (holds_of c.args.holds) in
    let older = take (c.args.self.count - 1) c.args.self.items in
    all_from_yields_List (λ (m : KeptManifest). held (manifest_of m)) _ _ _ c.all.ensures.ran (YieldsList-from_slice older cc) (λ x b q k. search (rules, tests))
    ∙ sym (list_all-map held manifest_of older) ∙ all_listed _ _
