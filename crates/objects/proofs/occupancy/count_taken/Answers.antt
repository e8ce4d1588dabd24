-- `count_taken` meets its contract.
-- Assumes nothing.
use mathlib.Core.Path.{◌≡◌, sym, ◌∙◌}
use Prim.Native.Nat.{ℕ}
use Rattle.std.proofs.Common.{rules}
use Rattle.std.specs.List.{sum_by}
use Rattle.rules.specs.Limits.{word_bits}
use Rattle.objects.specs.Occupancy.{flags, used}
use Rattle.objects.proofs.Words.{used_by_words}
use Rattle.objects.proofs.occupancy.count_taken.Goals as goal

pub returns : goal.returns
returns c =
    let sum : c.sum.result ≡ sum_by (λ (w : ℕ). used (flags word_bits w)) c.args.words.now = search rules in
    sum ∙ sym (used_by_words word_bits c.args.words.now)
