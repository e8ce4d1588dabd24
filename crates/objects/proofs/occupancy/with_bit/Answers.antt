-- `with_bit`, by the law of an occupancy word.
-- Assumes nothing.
use Rattle.rules.specs.Limits.{word_bits}
use Rattle.objects.proofs.Words.{or_flags}
use Rattle.objects.proofs.occupancy.with_bit.Goals as goal

pub returns : goal.returns
returns c = or_flags word_bits c.args.bits c.ranges.bits.fits c.args.at c.requires
