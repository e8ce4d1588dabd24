-- `object_list` meets its contract: a list laid over places that are all 0.
-- Assumes nothing.
use Rattle.std.proofs.Common.{sym, ap, ◌∙◌, ◌++◌, drop, length, List, replicate}
use Prim.Native.Nat.{ℕ}
use Rattle.rules.specs.Limits.{limits}
use Rattle.arrays.proofs.Lists.{laid_over}
use Rattle.ledger.proofs.Names.{padded-pad}
use Rattle.ledger.proofs.steps.object_list.Goals as goal

pub returns : goal.returns
returns c =
    let names = c.args.names.now in
    let places = ap (λ (l : List ℕ). l ++ drop (length names) (replicate limits.places 0)) c.copy_from_slice.ensures.after ∙ laid_over limits.places 0 names ∙ sym (padded-pad limits.places names c.requires) in
    λ j. record { count = length names; objects = places j }
