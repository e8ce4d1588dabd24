-- `Ledger::live_row` meets its contract: row 15.
-- Assumes nothing.
use mathlib.Core.Path.{sym, ◌∙◌}
use borrow.Author.Tests.{eq-eqb, ne_eqb}
use Rattle.rules.specs.Table.{first_of}
use Rattle.ledger.proofs.Live.{live-number}
use Rattle.ledger.proofs.Ledger.live_row.Goals.{then-hold-eq0-via-then-hold-eq0, then-hold-eq0-via-else-hold-eq0+then-has_number}
use Rattle.ledger.proofs.Ledger.live_row.Goals as goal

pub returns-then-hold-eq0 : goal.returns-then-hold-eq0
unfolding first_of
returns-then-hold-eq0 c = elim c.then-hold-eq0.branch [
  | then-hold-eq0-via-then-hold-eq0 w ↦ rw (eq-eqb _ _ w.if-hold-eq0.true)
  | then-hold-eq0-via-else-hold-eq0+then-has_number w ↦ rw (ne_eqb _ _ w.if-hold-eq0.false, sym (w.has_number.ensures ∙ live-number _ c.requires _ w.live.ensures _) ∙ w.if-has_number.true)
]

pub returns : goal.returns
unfolding first_of
returns c = rw (ne_eqb _ _ c.if-hold-eq0.false, sym (c.has_number.ensures ∙ live-number _ c.requires _ c.live.ensures _) ∙ c.if-has_number.false)
