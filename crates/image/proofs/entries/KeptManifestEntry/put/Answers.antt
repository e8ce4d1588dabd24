use Rattle.std.proofs.Common.{arith, rules}
use Rattle.image.specs.Image.{manifest_bytes}
use Rattle.image.proofs.Lengths.{laid-count, laid-names, length-laid}
use Rattle.image.proofs.entries.KeptManifestEntry.put.Goals as goal

pub shared_ref_as_front-put : goal.shared_ref_as_front-put
shared_ref_as_front-put c = omega (arith, laid-count c.args.self.now (search rules) c.requires.0)

pub put-requires : goal.put-requires
put-requires c = omega (arith, laid-names c.args.self.now (search rules) c.requires.0, length-laid c.args.self.now (search rules) c.requires.0 c.args._place, c.requires.1)

pub returns : goal.returns
unfolding manifest_bytes
returns c = search rules
