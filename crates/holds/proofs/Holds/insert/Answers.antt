use Rattle.std.proofs.Common.{rules, tests}
use Rattle.holds.proofs.Places.{earlier, items_long, inserted_laid}
use Rattle.holds.proofs.Holds.insert.Goals as goal

pub returns : goal.returns
returns c =
    let s = c.args.self in
    inserted_laid c.args.hold s _ (items_long s _ c.well_formed.0) c.requires.0 c.requires.1 c.requires.2 (c.insert.ensures earlier (λ x y r k. search (rules, tests)))
