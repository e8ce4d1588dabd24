-- `Objects::all_stored` meets its contract.
-- Assumes nothing.
use mathlib.Core.Path.{sym, ap, ◌∙◌}
use mathlib.Core.Bool.{not}
use mathlib.Core.List.{List}
use Prim.Native.Nat.{ℕ}
use Rattle.rules.specs.Lists.{all}
use Rattle.rules.proofs.Lists.{any_same}
use Rattle.arrays.proofs.Lists.{not-all}
use Rattle.objects.specs.Objects.{numbers_at, among}
use Rattle.objects.proofs.Places.{stored_among}
use Rattle.objects.proofs.Objects.all_stored.Goals as goal

pub returns : goal.returns
returns c =
    let s = c.args in
    let ps = s.self.items in
    ap not (c.all_among.ensures ∙ ap (λ (ns : List ℕ). all (among ns) s.list.now) c.numbers.ensures)
    ∙ not-all (among (numbers_at ps)) s.list.now ∙ any_same _ _ s.list.now (λ n i. ap not (sym (stored_among ps n)))
