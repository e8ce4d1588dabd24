use Rattle.std.proofs.Common.{rules, tests, ◌∙◌, ap, sym, drop, Bool, ◌&&◌}
use Rattle.std.proofs.lemmas.List.{take_rest}
use Rattle.std.proofs.lemmas.Iterator.Search.{all_from_yields_List}
use Rattle.std.proofs.lemmas.Iterator.{YieldsList-from_slice}
use borrow.Author.Tests.{le-leb}
use Rattle.rules.specs.Limits.{limits}
use Rattle.rules.specs.Lists.{all, conj}
use Rattle.rules.proofs.Listed.{all_listed}
use Rattle.holds.specs.Holds.{is_laid, is_no_hold}
use Rattle.holds.proofs.Holds.is_laid.Goals as goal

pub returns-then-self-le-HOLDS : goal.returns-then-self-le-HOLDS
unfolding is_laid is_no_hold conj
returns-then-self-le-HOLDS c =
    let s = c.args.self in
    all_from_yields_List is_no_hold _ _ _ c.all.ensures.ran (YieldsList-from_slice (drop s.count s.items) (c.iter.ensures.rest ∙ take_rest s.items s.count)) (λ x b q k. search (rules, tests))
    ∙ all_listed _ _ ∙ sym (ap (λ (b : Bool). b && all is_no_hold (drop s.count s.items)) (le-leb s.count limits.holds c.if-self-le-HOLDS.true))
