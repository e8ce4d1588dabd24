use Rattle.std.proofs.Common.{◌≤◌, arith, rules, sym}
use Rattle.rules.specs.Limits.{limits}
use Rattle.image.proofs.Lengths.{laid-count, length-laid}
use Rattle.image.proofs.entries.KeptManifestEntry.size.Goals.{Start}
use Rattle.image.proofs.entries.KeptManifestEntry.size.Goals as goal

few : (c : Start) → c.args.self.now.count ≤ limits.names
few c = laid-count c.args.self.now (search rules) c.requires

pub overflow_mul-result : goal.overflow_mul-result
overflow_mul-result c = omega (arith, few (goal.at.overflow_mul-result c).Start)

pub overflow_add-result : goal.overflow_add-result
overflow_add-result c = omega (arith, few (goal.at.overflow_add-result c).Start)

pub returns : goal.returns
returns c = λ p. sym (length-laid c.args.self.now (search rules) c.requires p)
