use Rattle.std.proofs.Common.{ap, ◌∙◌, length}
use Rattle.rules.specs.Lists.{keep}
use Rattle.arrays.specs.Arrays.{pad}
use Rattle.holds.specs.Holds.{no_hold}
use Rattle.holds.proofs.Places.{packed_laid}
use Rattle.holds.proofs.Holds.retained.Goals as goal

pub returns : goal.returns
returns g c = λ p t.
    let kept = ap (keep p) c.held.ensures in
    let items = packed_laid c.none-next.ensures (keep p c.held.result.now) c.pack.new.places (c.pack.ensures.packed p t) ∙ ap (pad 8 no_hold) kept in
    λ i. record { count = (c.pack.ensures.count p t ∙ ap length kept) i; items = items i }
