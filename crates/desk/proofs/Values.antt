-- The structs of a route card, as a walk by hand takes them (`Structs`).
-- Assumes nothing.
use Rattle.desk.proofs.Structs.{Plain}
use Rattle.ledger.specs.contracts.Ledger as L
use Rattle.ledger.proofs.Ledger.TheLaws as L'
use Rattle.desk.specs.contracts.Entry as E
use Rattle.desk.proofs.Entry.TheLaws as E'
use Rattle.desk.specs.contracts.RowFilled as R
use Rattle.desk.proofs.RowFilled.TheLaws as R'

abbrev pub Ledgers : Plain
Ledgers = record { type = L.the_type; laws = L'.the_laws; plain = L'.the_plain }

abbrev pub Entries : Plain
Entries = record { type = E.the_type; laws = E'.the_laws; plain = E'.the_plain }

abbrev pub Rows : Plain
Rows = record { type = R.the_type; laws = R'.the_laws; plain = R'.the_plain }
