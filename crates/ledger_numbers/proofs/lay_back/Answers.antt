-- `lay_back` meets its contract: the numbers are laid over the start of the others. Assumes nothing.
use Rattle.std.proofs.Common.{sym, arith, ◌∙◌}
use borrow.Rule.Slice.PartMut.{mid_len}
use Rattle.ledger_numbers.specs.Numbers.{ledger_numbers, ledger_size, laid_back}
use Rattle.ledger_numbers.proofs.Places.{over-lent}
use Rattle.ledger_numbers.proofs.lay_back.Goals as goal

pub returns-then-is_ledger : goal.returns-then-is_ledger
unfolding laid_back
returns-then-is_ledger c =
    let put = c.put_ledger in
    let v = c.args.numbers.now in
    rw (sym c.is_ledger.ensures ∙ c.if-is_ledger.true) (sym (over-lent (ledger_numbers c.args.ledger) put.new.out v ledger_size put.ensures (put.auto.out ∙ mid_len 0 ledger_size v (omega arith))))
