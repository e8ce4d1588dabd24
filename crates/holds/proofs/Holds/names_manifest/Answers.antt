use Rattle.std.proofs.Common.{rules, tests, ◌∙◌}
use Rattle.std.proofs.lemmas.Iterator.Search.{any_from_yields_List}
use Rattle.std.proofs.lemmas.Iterator.{YieldsList-from_slice}
use lib.Dec.{eqb}
use Rattle.rules.specs.declared.Hold.{Hold}
use Rattle.rules.proofs.Listed.{any_listed}
use Rattle.holds.specs.Holds.{holds_of}
use Rattle.holds.proofs.Holds.names_manifest.Goals as goal

pub returns : goal.returns
returns c =
    any_from_yields_List (λ (h : Hold). eqb c.args.manifest h.manifest) _ _ _ c.any.ensures.ran (YieldsList-from_slice (holds_of c.args.self) cc) (λ x b q k. search (rules, tests))
    ∙ any_listed _ _
