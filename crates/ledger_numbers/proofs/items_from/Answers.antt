use Rattle.std.proofs.Common.{rules}
use Rattle.ledger_numbers.proofs.Places.{each-made}
use Rattle.ledger_numbers.proofs.items_from.Goals as goal

pub returns : goal.returns
returns g c =
    let t = g.T.Numbers in
    each-made _ t.said t.SIZE c.args.v.now (λ i x q call. search rules) c.from_fn.ensures.items
