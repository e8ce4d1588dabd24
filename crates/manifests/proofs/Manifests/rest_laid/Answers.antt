use Rattle.std.proofs.Common.{rules, tests, ◌∙◌, drop, ◌-◌, arith}
use lib.ListN.{length-drop}
use lib.Seq.{take_all}
use Rattle.std.proofs.lemmas.Iterator.Search.{all_from_yields_List}
use Rattle.std.proofs.lemmas.Iterator.{YieldsList-from_slice}
use Rattle.rules.proofs.Listed.{all_listed}
use Rattle.manifests.specs.Manifests.{is_no_manifest}
use Rattle.manifests.proofs.Manifests.rest_laid.Goals as goal

pub returns : goal.returns
returns c =
    let ms = c.args.self.now in
    all_from_yields_List is_no_manifest _ _ _ c.all.ensures.ran (YieldsList-from_slice (drop ms.count ms.items) (c.iter.ensures.rest ∙ take_all (9 - ms.count) (drop ms.count ms.items) (omega (arith, length-drop ms.count ms.items)))) (λ x b q k. search (rules, tests))
    ∙ all_listed _ _
