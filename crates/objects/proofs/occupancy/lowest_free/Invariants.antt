-- `lowest_free` meets its contract: the words passed are full, so the lowest free place is that of the rest behind them.
-- Assumes nothing.
use mathlib.Core.Path.{◌≡◌}
use Prim.Native.Nat.{◌+◌, ◌*◌}
use lib.ListN.{drop}
use Rattle.rules.specs.Limits.{word_bits}
use Rattle.objects.specs.Occupancy.{flags_of, lowest_free}
use Rattle.objects.proofs.occupancy.lowest_free.Given as goal

abbrev pub invariant-loop-k : goal.invariant-loop-k
invariant-loop-k l = l.k * word_bits + lowest_free (flags_of word_bits (drop l.k l.words)) ≡ lowest_free (flags_of word_bits l.words)
