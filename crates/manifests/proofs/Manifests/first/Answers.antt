use Rattle.std.proofs.Common.{sym}
use Rattle.manifests.proofs.Places.{first-laid, first_items}
use Rattle.manifests.proofs.Manifests.first.Goals as goal

pub returns : goal.returns
returns c = λ i. record { count = 1; items = first_items (sym first-laid) i }
