-- `Objects::currencies` meets its contract.
-- Assumes nothing.
use Rattle.std.proofs.Common.{rules}
use Rattle.rules.specs.State.{free}
use Rattle.rules.specs.declared.Object.{Object}
use Rattle.objects.proofs.Filled.{filled}
use Rattle.objects.proofs.Places.{items_long}
use Rattle.objects.proofs.Objects.currencies.Goals as goal

pub returns : goal.returns
returns c = filled _ (λ (o : Object). o.currency) free _ c.args.self.items c.from_fn.result (λ i y q k. search rules) _ (items_long c.args.self _ c.well_formed.0) c.from_fn.ensures.items
