-- `Ledger::fence_row` meets its contract: rows 6 and 7.
-- Assumes nothing.
use mathlib.Core.Path.{sym, ap, ◌∙◌}
use Rattle.rules.specs.Table.{slot_row}
use Rattle.ledger.specs.Ledger.{view}
use Rattle.ledger.proofs.View.{sound_parts}
use Rattle.ledger.proofs.Live.{fence-rows}
use Rattle.manifests.specs.declared.KeptManifest.{KeptManifest}
use Rattle.ledger.proofs.Ledger.fence_row.Goals as goal

pub current-current-requires : goal.current-current-requires
current-current-requires c = (sound_parts _ c.requires).manifests

pub returns : goal.returns
returns c t who =
    let s = c.args in
    c.slot_row.ensures ∙ ap (λ (m : KeptManifest). slot_row m.number s.slot) c.current-current.ensures ∙ sym (fence-rows (view s.self) t who s.slot)
