use Rattle.std.proofs.Common.{rules, tests, sym, ◌∙◌}
use lib.Dec.{eqb}
use Rattle.std.proofs.lemmas.Iterator.Search.{all_from_yields_List}
use Rattle.std.proofs.lemmas.Iterator.{YieldsList-from_slice}
use Rattle.rules.proofs.Listed.{all_listed}
use Rattle.std.proofs.lemmas.List.{take_rest}
use Rattle.rules.proofs.Typed.{padded-from}
use Rattle.rules.proofs.is_padded.Goals as goal

pub returns-then-count-places : goal.returns-then-count-places
returns-then-count-places c =
    all_from_yields_List (eqb 0) _ _ _ c.all.ensures.ran (YieldsList-from_slice _ (c.iter.ensures.rest ∙ take_rest c.args.places.now c.args.count)) (λ x b q k. search (rules, tests))
    ∙ all_listed (eqb 0) _ ∙ sym (padded-from c.args.count c.args.places.now c.if-count-places.true)
