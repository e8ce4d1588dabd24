-- `fields::pair` meets its contract.
-- Assumes nothing.
use Rattle.std.proofs.Common.{arith}
use Rattle.fields.proofs.Bytes.{value_two}
use Rattle.fields.proofs.pair.Goals as goal

pub returns : goal.returns
returns c = (omega (arith, value_two c.args.at c.args.s.now (omega arith)), omega arith)
