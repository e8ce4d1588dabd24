-- The names lie behind the four numbers.
use Rattle.std.proofs.Common.{arith}
use Rattle.rules.specs.Limits.{limits}
use Rattle.ledger_numbers.proofs.Places.{lying_none, lying_one, lying_part, lying_all}
use Rattle.ledger_numbers.proofs.KeptManifestNumbers.put.Goals as goal

pub returns : goal.returns
returns c =
    let m = c.args.self.now in
    let head = lying_one m.count (lying_one m.compactor (lying_one m.writer (lying_one m.number (lying_none {out = c.args.out.now}) (omega arith)) (omega arith)) (omega arith)) (omega arith) in
    lying_all (lying_part limits.names head c.copy_from_slice.ensures.after c.copy_from_slice.auto.self (omega arith)) (omega arith)
