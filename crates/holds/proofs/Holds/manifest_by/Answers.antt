use Rattle.std.proofs.Common.{rules, tests}
use Rattle.std.proofs.lemmas.Iterator.Search.{find_from_yields_List}
use Rattle.std.proofs.lemmas.Iterator.{YieldsList-from_slice}
use lib.Dec.{eqb}
use Rattle.rules.specs.declared.Hold.{Hold}
use Rattle.holds.proofs.Found.{lookup-found}
use Rattle.holds.specs.Holds.{holds_of}
use Rattle.holds.proofs.Holds.manifest_by.Goals as goal

pub returns : goal.returns
returns c =
    let s = c.args.self in
    lookup-found (λ (h : Hold). h.number) (λ h. h.manifest) 0 c.args.number (λ x. x.now) c.find.result _ (holds_of s)
    (find_from_yields_List (λ (h : Hold). eqb c.args.number h.number) _ _ _ c.find.ensures.ran (YieldsList-from_slice (holds_of s) cc) (λ x b q k. search (rules, tests)))
    (search rules)
