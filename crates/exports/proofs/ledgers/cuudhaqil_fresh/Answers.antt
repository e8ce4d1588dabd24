-- `exports::ledgers::cuudhaqil_fresh` meets its contract: the numbers laid are as many as the part that is lent.
-- Assumes nothing.
use Rattle.std.proofs.Common.{rules, tests, sym, ap, ◌∙◌, ◌≡◌, length}
use Rattle.ledger.specs.Ledger.{lay}
use Rattle.rules.specs.State.{fresh as fresh_state}
use Rattle.ledger_numbers.specs.Numbers.{ledger_size, ledger_numbers}
use Rattle.exports.specs.Ledgers.{fresh}
use Rattle.exports.proofs.ledgers.cuudhaqil_fresh.Goals as goal

pub returns : goal.returns
unfolding fresh
returns c =
    let put = c.put_ledger in
    let laid : put.new.out ≡ ledger_numbers (lay fresh_state) = put.ensures ∙ ap ledger_numbers c.fresh.ensures in
    let many : length (ledger_numbers (lay fresh_state)) ≡ ledger_size = ap length (sym laid) ∙ put.auto.out ∙ search (rules, tests) in
    rw (many, laid) (search (rules, tests))
