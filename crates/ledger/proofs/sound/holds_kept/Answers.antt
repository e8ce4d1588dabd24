use Rattle.std.proofs.Common.{rules, tests, ◌∙◌, take}
use Rattle.std.proofs.lemmas.Iterator.Search.{all_from_yields_List}
use Rattle.std.proofs.lemmas.Iterator.{YieldsList-from_slice}
use Rattle.rules.proofs.Listed.{all_listed}
use Rattle.manifests.specs.Manifests.{manifests_of}
use Rattle.ledger.specs.Parts.{hold_kept}
use Rattle.ledger.proofs.sound.holds_kept.Goals as goal

pub returns : goal.returns
returns c =
    all_from_yields_List (hold_kept (manifests_of c.args.manifests)) _ _ _ c.all.ensures.ran (YieldsList-from_slice (take c.args.holds.count c.args.holds.items) cc) (λ x b q k. search (rules, tests))
    ∙ all_listed _ _
