-- `desk::fill_card` meets its contract: after i looks the card, which is the first entries and those beyond them, and the ledger are what `Progress` says of them.
-- Assumes nothing.
use Rattle.std.proofs.Common.{◌++◌, drop}
use Rattle.desk.proofs.Progress.{Progress}
use Rattle.desk.proofs.fill_card.Given as goal

abbrev pub invariant-loop-entry : goal.invariant-loop-entry
invariant-loop-entry l = Progress l.time l.hold l.count l.fn.ledger l.fn.card l.entry-index l.next (l.entry-items ++ drop l.count l.fn.card)
