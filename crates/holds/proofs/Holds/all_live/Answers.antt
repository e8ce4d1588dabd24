use Rattle.std.proofs.Common.{rules, tests, ◌∙◌}
use Rattle.std.proofs.lemmas.Iterator.Search.{all_from_yields_List}
use Rattle.std.proofs.lemmas.Iterator.{YieldsList-from_slice}
use Rattle.rules.specs.Words.{live}
use Rattle.rules.proofs.Listed.{all_listed}
use Rattle.holds.specs.Holds.{holds_of}
use Rattle.holds.proofs.Holds.all_live.Goals as goal

pub returns : goal.returns
returns c =
    all_from_yields_List (live c.args.time) _ _ _ c.all.ensures.ran (YieldsList-from_slice (holds_of c.args.self) cc) (λ x b q k. search (rules, tests))
    ∙ all_listed _ _
