-- `Objects::is_full` meets its contract: count of ones tells a full store.
-- Assumes nothing.
use mathlib.Core.Path.{◌≡◌, ap, ◌∙◌}
use Prim.Native.Nat.{ℕ, ◌≤◌}
use native.Mathlib.Omega.{arith}
use lib.Dec.{eqb, leb}
use lib.ListN.{length}
use Rattle.std.proofs.lemmas.Bool.Decides.{nat_tests}
use Rattle.rules.specs.Limits.{limits}
use Rattle.rules.specs.Lists.{keep}
use Rattle.rules.specs.State.{occupied}
use Rattle.rules.proofs.Numbers.{keep-length}
use Rattle.objects.specs.Occupancy.{used}
use Rattle.objects.proofs.Places.{items_long, laid-flags, used-length}
use Rattle.objects.proofs.Objects.is_full.Goals as goal

-- at most k: all are taken exactly when k are
full : (k n : ℕ) → n ≤ k → eqb n k ≡ leb k n
full k n h = grind (arith, nat_tests)

pub returns : goal.returns
returns c =
    let s = c.args.self in
    let long = items_long s _ c.well_formed.0 in
    let many : c.count_taken.result ≡ length (keep occupied s.items) =
    c.count_taken.ensures ∙ ap used (laid-flags s c.requires long) ∙ used-length s.items in
    ap (λ (n : ℕ). eqb n limits.places) many ∙ full limits.places (length (keep occupied s.items)) (omega (arith, keep-length occupied s.items))
