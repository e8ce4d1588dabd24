-- `desk::look_step` meets its contract: a step whose list is empty. Assumes nothing.
use Rattle.std.proofs.Common.{[], arith}
use Rattle.rules.proofs.Typed.{list-asks}
use Rattle.desk.proofs.look_step.Goals as goal

pub returns : goal.returns
returns c = list-asks _ _ [] (omega arith)
