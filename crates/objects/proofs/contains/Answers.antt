-- `contains` meets its contract.
-- Assumes nothing.
use mathlib.Core.Path.{◌∙◌}
use lib.Dec.{eqb}
use Rattle.std.proofs.Common.{rules, tests}
use Rattle.std.proofs.lemmas.Iterator.{YieldsList-from_slice}
use Rattle.std.proofs.lemmas.Iterator.Search.{any_from_yields_List}
use Rattle.rules.specs.Lists.{has}
use Rattle.rules.proofs.Listed.{any_listed}
use Rattle.objects.proofs.contains.Goals as goal

pub returns : goal.returns
unfolding has
returns c = any_from_yields_List (eqb c.args.number) _ _ _ c.any.ensures.ran (YieldsList-from_slice c.args.list.now cc) (λ x b q k. search (rules, tests)) ∙ any_listed _ _
