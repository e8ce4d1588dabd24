-- `all_among` meets its contract: where the last one was found says only where the next is looked for first.
-- Assumes nothing.
use mathlib.Core.Path.{◌≡◌}
use Prim.Native.Nat.{◌≤◌}
use lib.ListN.{length, drop}
use Rattle.rules.specs.Lists.{all}
use Rattle.objects.specs.Objects.{among}
use Rattle.objects.proofs.all_among.Given as goal

abbrev pub invariant-loop-name : goal.invariant-loop-name
invariant-loop-name l = (l.at ≤ length l.numbers) × (all (among l.numbers) (drop l.name-index l.list) ≡ all (among l.numbers) l.list)
