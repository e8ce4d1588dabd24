use Rattle.std.proofs.Common.{sym}
use Rattle.image.proofs.Lengths.{length-hold}
use Rattle.image.proofs.entries.HoldEntry.size.Goals as goal

pub returns : goal.returns
returns c = λ p. sym (length-hold p c.args.self.now)
