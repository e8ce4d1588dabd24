-- `records::format::fields_of` meets its contract: behind the fields the places are blank. Assumes nothing.
use Rattle.std.proofs.Common.{◌++◌, ap₂}
use Rattle.std.proofs.lemmas.List.{drop-replicate}
use Rattle.records.specs.Format.{inner, most_fields}
use Rattle.records.proofs.format.fields_of.Goals as goal

pub returns-clause-places : goal.returns-clause-places
returns-clause-places g c = ap₂ ◌++◌ c.copy_from_slice.ensures.after (drop-replicate g.row.N most_fields (inner 0 0 0))
