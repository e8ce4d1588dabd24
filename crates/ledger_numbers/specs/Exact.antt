-- That numbers and ledgers are each other's, and that what no ledger can be is not sound. Proved in proofs/Exact.antt.
-- Assumes nothing.
use Rattle.std.specs.Prelude.{◌≡◌, true, false, List, ℕ, ◌≤◌, leb, length}
use Rattle.rules.specs.declared.Object.{Object}
use Rattle.rules.specs.Limits.{word_count}
use Rattle.rules.specs.Lists.{all}
use Rattle.ledger.specs.declared.Ledger.{Ledger}
use Rattle.ledger.specs.Ledger.{is_sound}
use Rattle.ledger.specs.SoundLaw.{Whole}
use Rattle.ledger_numbers.specs.Numbers.{largest_currency, ledger_size, ledger_numbers, is_ledger, ledger_from, laid_back}

pub record NumbersExact : Type 0 where
  -- a ledger that is not changed leaves its numbers as they are, bit for bit, and so do numbers that no ledger can be
  pub stays : (v : List ℕ) → ledger_size ≤ length v → laid_back (ledger_from v) v ≡ v
  -- numbers that no ledger can be are a ledger that is not sound
  pub unsound : (v : List ℕ) → is_ledger v ≡ false → is_sound (ledger_from v) ≡ false
  -- the numbers of a ledger, whose arrays and currencies are as their types say, are numbers that a ledger can be, and say that ledger
  pub back : (l : Ledger) → Whole l → length l.objects.occupancy ≡ word_count → all (λ (o : Object). leb o.currency largest_currency) l.objects.items ≡ true
      → (is_ledger (ledger_numbers l) ≡ true) × (ledger_from (ledger_numbers l) ≡ l)
