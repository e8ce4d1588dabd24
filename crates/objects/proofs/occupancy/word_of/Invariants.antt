-- `word_of` meets its contract: the word is that of the places passed, which stand behind those that are left.
-- Assumes nothing.
use mathlib.Core.Path.{◌≡◌}
use mathlib.Core.List.{List, map, ◌++◌}
use Prim.Native.Nat.{ℕ}
use Rattle.rules.specs.Table.{nonzero}
use Rattle.objects.specs.Occupancy.{word}
use Rattle.objects.proofs.occupancy.word_of.Given as goal

abbrev pub invariant-loop-number : goal.invariant-loop-number
invariant-loop-number l = (passed : List ℕ) × (l.numbers ≡ l.number-iterator.iter.rest.now ++ passed) × (l.word ≡ word (map nonzero passed))
