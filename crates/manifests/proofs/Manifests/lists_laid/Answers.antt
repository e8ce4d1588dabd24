use Rattle.std.proofs.Common.{rules, tests, ◌∙◌, take}
use Rattle.std.proofs.lemmas.Iterator.Search.{all_from_yields_List}
use Rattle.std.proofs.lemmas.Iterator.{YieldsList-from_slice}
use Rattle.rules.proofs.Listed.{all_listed}
use Rattle.manifests.specs.Manifests.{is_list_laid}
use Rattle.manifests.proofs.Manifests.lists_laid.Goals as goal

pub returns : goal.returns
returns c =
    let ms = c.args.self.now in
    all_from_yields_List is_list_laid _ _ _ c.all.ensures.ran (YieldsList-from_slice (take ms.count ms.items) cc) (λ x b q k. search (rules, tests))
    ∙ all_listed _ _
