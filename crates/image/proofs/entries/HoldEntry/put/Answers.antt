use Rattle.std.proofs.Common.{arith, rules}
use Rattle.image.specs.Image.{hold_bytes}
use Rattle.image.proofs.Lengths.{length-hold}
use Rattle.image.proofs.entries.HoldEntry.put.Goals as goal

pub put-requires : goal.put-requires
put-requires c = omega (arith, length-hold c.args._place c.args.self.now, c.requires)

pub returns : goal.returns
unfolding hold_bytes
returns c = search rules
