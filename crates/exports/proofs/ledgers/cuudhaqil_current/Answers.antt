-- `exports::ledgers::cuudhaqil_current` asks for the current manifest of a sound ledger, which is laid out.
-- Assumes nothing.
use Rattle.std.proofs.Common.{sym, ◌∙◌}
use Rattle.ledger.proofs.View.{sound_parts}
use Rattle.exports.proofs.ledgers.cuudhaqil_current.Goals as goal

pub current-current-requires : goal.current-current-requires
current-current-requires c = (sound_parts c.ledger_from-said.result (sym c.is_sound.ensures ∙ c.if-not-is_sound.false)).manifests
